use Rattle.shrinking_sets.proofs.Growing.{visits_keep_closed}
use Rattle.shrinking_sets.proofs.laws.visits_keep_closed.Goals as goal

pub returns : goal.returns
returns c = visits_keep_closed
