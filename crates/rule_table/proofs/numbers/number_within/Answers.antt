use Rattle.std.proofs.Common.{◌≡◌, arith}
use Rattle.rule_table.proofs.NumberTexts.{same_numeral}
use Rattle.rule_table.proofs.numbers.number_within.Goals as goal

pub returns-in-None : goal.returns-in-None
returns-in-None c = λ n low high e. c.in-None.ensures n (omega (arith, c.ranges.most.fits)) e

pub returns-then-number-least : goal.returns-then-number-least
returns-then-number-least c = λ n low high e.
    let same : c.in-Some.number ≡ n = same_numeral c.in-Some.number n c.args.word.now c.in-Some.ensures.0 (omega (arith, c.ranges.most.fits)) c.in-Some.ensures.1 e in
    omega arith

pub returns-then-number-most : goal.returns-then-number-most
returns-then-number-most c = λ n low high e.
    let same : c.in-Some.number ≡ n = same_numeral c.in-Some.number n c.args.word.now c.in-Some.ensures.0 (omega (arith, c.ranges.most.fits)) c.in-Some.ensures.1 e in
    omega arith
