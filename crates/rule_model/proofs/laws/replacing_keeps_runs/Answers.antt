use Rattle.rule_model.proofs.LinesKept.{one_line_keeps}
use Rattle.rule_model.proofs.laws.replacing_keeps_runs.Goals as goal

pub returns : goal.returns
returns c = λ s r ls sound literals a. (one_line_keeps s r ls sound a).same literals
