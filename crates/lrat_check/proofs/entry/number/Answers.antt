use Rattle.std.proofs.Common.{◌∙◌, sym}
use Rattle.lrat_check.proofs.Numerals.{numeral_is_text, numeral_parses, numeral_misread, numeral_unread}
use Rattle.lrat_check.proofs.entry.number.Goals as goal

pub returns-in_default : goal.returns-in_default
returns-in_default c = λ z f e. absurd (c.in_default.ensures.cases.0 (numeral_is_text z f c.args.word.now e))

pub returns-in_default-parse : goal.returns-in_default-parse
returns-in_default-parse c = λ z f e.
    numeral_unread c.parse.result _ z c.in_default-parse.is (numeral_parses z f c.in-Ok.text.now (e ∙ sym c.in-Ok.ensures.cases.0) c.parse.result c.parse.ensures.value.0)

pub returns-else-is_numeral_of : goal.returns-else-is_numeral_of
returns-else-is_numeral_of c = λ z f e.
    numeral_misread c.parse.result c.in-Ok-parse.number z c.args.word.now c.in-Ok-parse.is (numeral_parses z f c.in-Ok.text.now (e ∙ sym c.in-Ok.ensures.cases.0) c.parse.result c.parse.ensures.value.0) f e c.if-is_numeral_of.ensures.1
