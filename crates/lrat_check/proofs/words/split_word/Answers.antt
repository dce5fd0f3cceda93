use Rattle.lrat_check.proofs.Reading.{split_at_blank, split_no_blank}
use Rattle.lrat_check.proofs.words.split_word.Goals as goal

pub returns-then-len-bytes : goal.returns-then-len-bytes
returns-then-len-bytes c = split_at_blank c.args.bytes.now c.word_len-len.result c.word_len-len.ensures c.if-len-bytes.true

pub returns-else-len-bytes : goal.returns-else-len-bytes
returns-else-len-bytes c = split_no_blank c.args.bytes.now c.word_len-len.result c.word_len-len.ensures c.if-len-bytes.false
