use Rattle.std.proofs.Common.{ap, sym, ◌∙◌, arith, length}
use Rattle.rule_table.proofs.HexTexts.{no_digit, some_digit, length-hex}
use Rattle.rule_table.proofs.numbers.blank_digit.Goals as goal

pub returns-then-bytes-ne2 : goal.returns-then-bytes-ne2
returns-then-bytes-ne2 c = λ d h e. omega (arith, ap length e, length-hex 1 d)

pub returns-in-None : goal.returns-in-None
returns-in-None c = λ d h e. no_digit c.args.bytes.now d h (sym c.digit.ensures.value ∙ c.in-None.is) e

pub returns-in-Some : goal.returns-in-Some
returns-in-Some c = some_digit c.args.bytes.now c.in-Some.value c.if-bytes-ne2.false c.if-bytes-ne32.false (sym c.digit.ensures.value ∙ c.in-Some.is)
