use Rattle.flow_tidy.proofs.Whole.{change_keeps}
use Rattle.flow_tidy.proofs.laws.labels_stay_code.Goals as goal

pub returns : goal.returns
returns c = λ s change ls h label. (change_keeps s change ls h).entry label
