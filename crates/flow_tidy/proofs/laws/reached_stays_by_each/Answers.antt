use Rattle.flow_tidy.proofs.Whole.{change_reaches}
use Rattle.flow_tidy.proofs.laws.reached_stays_by_each.Goals as goal

pub returns : goal.returns
returns c = change_reaches
