use Rattle.rule_table.proofs.Progress.{one_table}
use Rattle.rule_table.proofs.laws.texts_have_one_table.Goals as goal

pub returns : goal.returns
returns c = one_table
