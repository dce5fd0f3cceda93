use Rattle.rule_model.proofs.LinesKept.{lines_same}
use Rattle.rule_model.proofs.laws.rewriting_keeps_runs.Goals as goal

pub returns : goal.returns
returns c = lines_same
