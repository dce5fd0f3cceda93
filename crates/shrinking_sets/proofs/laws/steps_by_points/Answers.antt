use Rattle.shrinking_sets.proofs.Steps.{steps_by_points}
use Rattle.shrinking_sets.proofs.laws.steps_by_points.Goals as goal

pub returns : goal.returns
returns c = steps_by_points
