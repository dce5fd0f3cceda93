use Rattle.shrinking_sets.proofs.Forward.{forward_is_read}
use Rattle.shrinking_sets.proofs.laws.forward_is_read.Goals as goal

pub returns : goal.returns
returns c = forward_is_read
