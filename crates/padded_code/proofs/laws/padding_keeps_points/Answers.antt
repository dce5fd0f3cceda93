use Rattle.padded_code.proofs.Padded.{points_ranked}
use Rattle.padded_code.proofs.laws.padding_keeps_points.Goals as goal

pub returns : goal.returns
returns c = points_ranked
