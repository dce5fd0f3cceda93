use Rattle.padded_code.proofs.Windows.{rank_taken}
use Rattle.padded_code.proofs.laws.ranks_are_taken.Goals as goal

pub returns : goal.returns
returns c = rank_taken
