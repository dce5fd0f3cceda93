use Rattle.shrinking_sets.proofs.Walk.{goes_on}
use Rattle.shrinking_sets.proofs.laws.clearing_goes_on.Goals as goal

pub returns : goal.returns
returns c = goes_on
