use Rattle.rule_model.proofs.LinesKept.{one_line_keeps}
use Rattle.rule_model.proofs.laws.labels_stay_code.Goals as goal

pub returns : goal.returns
returns c = λ s r ls sound a label. (one_line_keeps s r ls sound a).entry label
