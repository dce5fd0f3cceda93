use Rattle.thumb_model.proofs.Points.{point_places}
use Rattle.thumb_model.proofs.laws.points_are_places.Goals as goal

pub returns : goal.returns
returns c = point_places
