use Rattle.shrinking_sets.proofs.Walk.{clearing_begins}
use Rattle.shrinking_sets.proofs.laws.clearing_begins.Goals as goal

pub returns : goal.returns
returns c = clearing_begins
