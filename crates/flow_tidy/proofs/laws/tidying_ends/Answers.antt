use Rattle.flow_tidy.proofs.Ends.{tidying_ends}
use Rattle.flow_tidy.proofs.laws.tidying_ends.Goals as goal

pub returns : goal.returns
returns c = tidying_ends
