use Rattle.std.proofs.Common.{◌∙◌, sym}
use Rattle.rule_table.proofs.NumberTexts.{numeral_is_text, numeral_parses, numeral_misread, numeral_unread}
use Rattle.rule_table.proofs.numbers.number.Goals as goal

pub returns-in_default : goal.returns-in_default
returns-in_default c = λ n h e. absurd (c.in_default.ensures.cases.0 (numeral_is_text n h c.args.word.now e))

pub returns-in_default-parse : goal.returns-in_default-parse
returns-in_default-parse c = λ n h e.
    numeral_unread c.parse.result _ n c.in_default-parse.is (numeral_parses n h c.in-Ok.text.now (e ∙ sym c.in-Ok.ensures.cases.0) c.parse.result c.parse.ensures.value.0)

pub returns-else-is_numeral_of : goal.returns-else-is_numeral_of
returns-else-is_numeral_of c = λ n h e.
    numeral_misread c.parse.result c.in-Ok-parse.number n c.args.word.now c.in-Ok-parse.is (numeral_parses n h c.in-Ok.text.now (e ∙ sym c.in-Ok.ensures.cases.0) c.parse.result c.parse.ensures.value.0) e c.if-is_numeral_of.ensures.1
