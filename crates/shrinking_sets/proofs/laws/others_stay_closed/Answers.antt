use Rattle.shrinking_sets.proofs.Closed.{others_stay_closed}
use Rattle.shrinking_sets.proofs.laws.others_stay_closed.Goals as goal

pub returns : goal.returns
returns c = others_stay_closed
