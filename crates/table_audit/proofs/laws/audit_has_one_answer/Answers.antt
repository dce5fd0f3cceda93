use Rattle.table_audit.proofs.Determined.{table_same}
use Rattle.table_audit.proofs.laws.audit_has_one_answer.Goals as goal

pub returns : goal.returns
returns c t a b p q = table_same t a b p q
