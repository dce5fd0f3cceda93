use Rattle.shrinking_sets.proofs.Growing.{closed_have_all}
use Rattle.shrinking_sets.proofs.laws.closed_have_all.Goals as goal

pub returns : goal.returns
returns c = closed_have_all
