use Rattle.std.proofs.Common.{◌<◌, ◌≤◌, List, Bool, length, refl, subst, sym}
use Rattle.std.proofs.lemmas.Bool.{ltb-true, ltb-false}
use Rattle.std.proofs.lemmas.Option.{slice_get_read}
use Rattle.kept_places.specs.Marks.{IsNode}
use Rattle.std.proofs.Common.{◌∙◌}
use Rattle.edited_listing.proofs.Emits.{new_found, new_none}
use Rattle.edited_listing.proofs.emitting.next_new.Goals as goal

pub returns-in-Some-clause-new : goal.returns-in-Some-clause-new
returns-in-Some-clause-new c =
    let node = subst (λ (ms : List Bool). IsNode ms c.args.from c.node-place.result) c.requires.marks c.node-place.ensures.node in
    let low : c.node-place.result < length c.args.stands.now = ltb-true _ _ (sym c.in-Some.ensures.lookup.0) in
    let at = slice_get_read c.args.stands.now (length c.args.stands.now) c.node-place.result c.in-Some.standing.now refl low c.in-Some.ensures.lookup.1 in
    c.new_at.ensures ∙ new_found c.args.home c.args.from c.node-place.result c.args.stands.now c.in-Some.standing.now node at

pub returns-in-None-clause-new : goal.returns-in-None-clause-new
returns-in-None-clause-new c =
    let node = subst (λ (ms : List Bool). IsNode ms c.args.from c.node-place.result) c.requires.marks c.node-place.ensures.node in
    let past : length c.args.stands.now ≤ c.node-place.result = ltb-false _ _ (sym c.in-None.ensures.lookup.0) in
    new_none c.args.home c.args.from c.node-place.result c.args.stands.now node past
