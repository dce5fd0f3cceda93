use Rattle.std.proofs.Common.{◌∙◌, sym}
use Rattle.std.proofs.lemmas.List.{nil_from_length}
use Rattle.ascii_scan.proofs.TokenLemmas.{next_none, next_mark, next_word}
use Rattle.ascii_scan.proofs.words.next_token.Goals as goal

pub returns-in-None : goal.returns-in-None
returns-in-None c = next_none c.args.bytes.now (sym c.without_blanks-bytes.ensures ∙ nil_from_length _ c.in-None.ensures.cases)

pub returns-then-is_mark_byte : goal.returns-then-is_mark_byte
returns-then-is_mark_byte c =
    next_mark c.args.bytes.now c.in-Some.first.now c.in-Some.after.now (sym c.without_blanks-bytes.ensures ∙ c.in-Some.ensures.cases.0) (sym c.is_mark_byte.ensures ∙ c.if-is_mark_byte.true)

pub returns-else-is_mark_byte : goal.returns-else-is_mark_byte
returns-else-is_mark_byte c =
    rw (c.split_word.ensures.word, c.split_word.ensures.rest, c.without_blanks-bytes.ensures)
    (next_word c.args.bytes.now c.in-Some.first.now c.in-Some.after.now (sym c.without_blanks-bytes.ensures ∙ c.in-Some.ensures.cases.0) (sym c.is_mark_byte.ensures ∙ c.if-is_mark_byte.false))
