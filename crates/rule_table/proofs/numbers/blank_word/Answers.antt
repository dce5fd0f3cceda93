use Rattle.std.proofs.Common.{◌≡◌, ap, sym, ◌∙◌, arith, length, take, drop}
use Rattle.std.proofs.lemmas.Bool.{false≢true}
use Rattle.rule_table.proofs.HexTexts.{no_word, short_word}
use Rattle.rule_table.proofs.numbers.blank_word.Goals as goal

pub returns-then-after-lt8 : goal.returns-then-after-lt8
returns-then-after-lt8 c = λ w more e.
    short_word c.args.bytes.now w more (let size = ap length c.in-Some.ensures.cases.0 in omega arith) e

pub returns-in-None : goal.returns-in-None
returns-in-None c = λ w more e.
    let front : c.split_at.result.0.now ≡ take 8 (drop 1 c.args.bytes.now) = c.split_at.ensures.front ∙ ap (λ us. take 8 (drop 1 us)) (sym c.in-Some.ensures.cases.0) in
    let word = no_word c.args.bytes.now c.split_at.result.0.now w more front e in
    false≢true (c.in-None.ensures.none w word)
