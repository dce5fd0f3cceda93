use Rattle.std.proofs.Common.{◌≡◌, ◌∙◌, true, false, subst, sym}
use Rattle.thumb_model.specs.Listing.{code_of}
use Rattle.flow_tidy.specs.DuePlaces.{AreDue}
use Rattle.flow_tidy.proofs.Settled.{still_due}
use Rattle.flow_tidy.proofs.searching.judge.Goals as goal

pub returns-then-not-is_caused : goal.returns-then-not-is_caused
returns-then-not-is_caused c =
    let code = code_of c.args.listing.now in
    subst (AreDue code) (sym c.take.ensures)
    (still_due code c.args.due.now c.args.place c.requires.due (λ k. let no : true ≡ false = sym (c.is_caused.ensures.1 k) ∙ c.if-not-is_caused.true in absurd (cc)))
