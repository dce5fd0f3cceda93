use Rattle.thumb_syntax.proofs.RowRelation.{rows_do_agree}
use Rattle.thumb_syntax.proofs.laws.forms_agree.Goals as goal

pub returns : goal.returns
returns c = rows_do_agree
