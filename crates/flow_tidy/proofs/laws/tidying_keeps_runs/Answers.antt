use Rattle.flow_tidy.proofs.Whole.{tidied_keep}
use Rattle.flow_tidy.proofs.laws.tidying_keeps_runs.Goals as goal

pub returns : goal.returns
returns c = λ s ls cs new literals h. (tidied_keep s ls cs new h).same literals
