use Rattle.std.proofs.Common.{◌≡◌, ◌∙◌, true, false, ap, sym}
use Rattle.std.specs.Prelude.{is_some, not}
use Rattle.thumb_model.specs.Listing.{has_label, labels_from}
use Rattle.thumb_model.specs.Naming.{is_in_range}
use Rattle.thumb_machine.specs.Naming.{naming_of}
use Rattle.thumb_machine.proofs.FitLemmas.{labelled}
use Rattle.thumb_machine.proofs.naming.Naming.is_outside.Goals as goal

pub returns-then-is_some : goal.returns-then-is_some
returns-then-is_some c =
    let there : has_label c.args.name.now (labels_from 0 c.args.listing.now) ≡ true =
    sym (c.is_some.ensures ∙ ap is_some c.label_place.ensures ∙ labelled c.args.name.now (labels_from 0 c.args.listing.now)) ∙ c.if-is_some.true in
    rw there c.if-is_some.true

pub returns-else-is_some : goal.returns-else-is_some
returns-else-is_some c =
    let none : has_label c.args.name.now (labels_from 0 c.args.listing.now) ≡ false =
    sym (c.is_some.ensures ∙ ap is_some c.label_place.ensures ∙ labelled c.args.name.now (labels_from 0 c.args.listing.now)) ∙ c.if-is_some.false in
    rw none (ap not (c.is_in_range.ensures ∙ ap (is_in_range (naming_of c.args.self.now)) c.word.ensures))
