use Rattle.std.proofs.Common.{◌≡◌, ◌∙◌, ℕ, true, map, subst}
use Rattle.thumb_syntax.specs.Mnemonics.{are_there_at, group_of}
use Rattle.thumb_syntax.proofs.Named.{rows_at_place}
use Rattle.thumb_syntax.proofs.reading.forms_of.Goals as goal

pub returns : goal.returns
returns c =
    let all = subst (λ (place : ℕ). are_there_at place (map group_of c.mnemonics.result.now) ≡ true) c.place_of.ensures.place c.mnemonics.ensures.all in
    c.forms_in.ensures ∙ rows_at_place c.args.word.now (map group_of c.mnemonics.result.now) c.mnemonics.ensures.forms all
