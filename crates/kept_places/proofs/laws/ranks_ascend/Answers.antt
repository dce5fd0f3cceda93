use Rattle.kept_places.proofs.Ranks.{ranks_ascend}
use Rattle.kept_places.proofs.laws.ranks_ascend.Goals as goal

pub returns : goal.returns
returns c = ranks_ascend
