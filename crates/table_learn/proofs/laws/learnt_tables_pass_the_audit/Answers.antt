use Rattle.table_learn.proofs.Passing.{learnt_pass}
use Rattle.table_learn.proofs.laws.learnt_tables_pass_the_audit.Goals as goal

pub returns : goal.returns
returns c = learnt_pass
