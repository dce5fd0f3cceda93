use Rattle.flow_tidy.proofs.Whole.{change_keeps}
use Rattle.flow_tidy.proofs.laws.changes_keep_runs.Goals as goal

pub returns : goal.returns
returns c = λ s change ls literals h. (change_keeps s change ls h).same literals
