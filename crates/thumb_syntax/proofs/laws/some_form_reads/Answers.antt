use Rattle.thumb_syntax.proofs.RowRelation.{reads_some_row}
use Rattle.thumb_syntax.proofs.laws.some_form_reads.Goals as goal

pub returns : goal.returns
returns c = reads_some_row
