use Rattle.shrinking_sets.proofs.Anew.{forward_begins}
use Rattle.shrinking_sets.proofs.laws.forward_begins.Goals as goal

pub returns : goal.returns
returns c = forward_begins
