use Rattle.std.proofs.Common.{◌∙◌, ◌∷◌, sym}
use Rattle.rule_table.specs.Text.{hex_of}
use Rattle.rule_table.specs.Digits.{pair_text}
use Rattle.rule_table.proofs.HexTexts.{four, pair_tells}
use Rattle.rule_table.proofs.tails.state.Goals as goal

pub returns-in_default : goal.returns-in_default
returns-in_default c = λ s is e.
    let f = four s c.args.tail.now is e in
    c.in_default.ensures f.a f.b (pair_text f.c f.d (32 ∷ hex_of 1 s.nzcv)) f.is

pub returns-in_default-blank_words : goal.returns-in_default-blank_words
returns-in_default-blank_words c = λ s is e.
    let f = four s c.args.tail.now is e in
    let tail = pair_tells f.a f.b c.in-Some.first c.in-Some.second (pair_text f.c f.d (32 ∷ hex_of 1 s.nzcv)) c.in-Some.rest.now (f.is ∙ sym c.in-Some.ensures) in
    c.in_default-blank_words.ensures f.c f.d (32 ∷ hex_of 1 s.nzcv) tail

pub returns-in-None : goal.returns-in-None
returns-in-None c = λ s is e.
    let f = four s c.args.tail.now is e in
    let tail = pair_tells f.a f.b c.in-Some.first c.in-Some.second (pair_text f.c f.d (32 ∷ hex_of 1 s.nzcv)) c.in-Some.rest.now (f.is ∙ sym c.in-Some.ensures) in
    let flags = pair_tells f.c f.d c.in-Some-blank_words.third c.in-Some-blank_words.fourth (32 ∷ hex_of 1 s.nzcv) c.in-Some-blank_words.rest.now (tail ∙ sym c.in-Some-blank_words.ensures) in
    c.in-None.ensures s.nzcv is.flags flags
