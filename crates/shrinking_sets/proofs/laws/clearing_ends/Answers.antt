use Rattle.shrinking_sets.proofs.Walk.{clearing_ends}
use Rattle.shrinking_sets.proofs.laws.clearing_ends.Goals as goal

pub returns : goal.returns
returns c = clearing_ends
