use Rattle.shrinking_sets.proofs.Points.{cleared_by_points_is_read}
use Rattle.shrinking_sets.proofs.laws.cleared_by_points_is_read.Goals as goal

pub returns : goal.returns
returns c = cleared_by_points_is_read
