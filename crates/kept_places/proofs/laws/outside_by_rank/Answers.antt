use Rattle.kept_places.proofs.Ranks.{outside_by_rank}
use Rattle.kept_places.proofs.laws.outside_by_rank.Goals as goal

pub returns : goal.returns
returns c = outside_by_rank
