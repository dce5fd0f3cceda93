use Rattle.std.proofs.Common.{◌++◌, ◌∷◌, sym, ◌∙◌}
use Rattle.rule_table.specs.Text.{hex_of}
use Rattle.rule_table.proofs.HexTexts.{word_tells}
use Rattle.rule_table.proofs.numbers.blank_words.Goals as goal

pub returns-in-None : goal.returns-in-None
returns-in-None c = λ v w more e.
    let tail = word_tells 8 v c.in-Some.first (32 ∷ (hex_of 8 w ++ more)) c.in-Some.rest.now (e ∙ sym c.in-Some.ensures) in
    c.in-None.ensures w more tail.1
