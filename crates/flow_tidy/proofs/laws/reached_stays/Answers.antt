use Rattle.flow_tidy.proofs.Whole.{tidied_reach}
use Rattle.flow_tidy.proofs.laws.reached_stays.Goals as goal

pub returns : goal.returns
returns c = tidied_reach
