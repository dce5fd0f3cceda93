use Rattle.shrinking_sets.proofs.Enters.{nothing_enters}
use Rattle.shrinking_sets.proofs.laws.nothing_enters.Goals as goal

pub returns : goal.returns
returns c = nothing_enters
