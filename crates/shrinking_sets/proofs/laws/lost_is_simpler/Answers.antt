use Rattle.shrinking_sets.proofs.Lost.{lost_is_simpler}
use Rattle.shrinking_sets.proofs.laws.lost_is_simpler.Goals as goal

pub returns : goal.returns
returns c = lost_is_simpler
