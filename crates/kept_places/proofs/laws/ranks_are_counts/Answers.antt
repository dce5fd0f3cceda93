use Rattle.kept_places.proofs.Ranks.{rank_count}
use Rattle.kept_places.proofs.laws.ranks_are_counts.Goals as goal

pub returns : goal.returns
returns c = rank_count
