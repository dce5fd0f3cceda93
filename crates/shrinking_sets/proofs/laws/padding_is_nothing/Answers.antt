use Rattle.shrinking_sets.proofs.Padding.{padding_is_nothing}
use Rattle.shrinking_sets.proofs.laws.padding_is_nothing.Goals as goal

pub returns : goal.returns
returns c = padding_is_nothing
