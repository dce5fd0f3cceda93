use Rattle.shrinking_sets.proofs.Anew.{forward_goes_on}
use Rattle.shrinking_sets.proofs.laws.forward_goes_on.Goals as goal

pub returns : goal.returns
returns c = forward_goes_on
