use Rattle.shrinking_sets.proofs.Cleared.{cleared_is_read}
use Rattle.shrinking_sets.proofs.laws.cleared_is_read.Goals as goal

pub returns : goal.returns
returns c = cleared_is_read
