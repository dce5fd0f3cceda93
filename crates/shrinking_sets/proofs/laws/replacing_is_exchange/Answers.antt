use Rattle.shrinking_sets.proofs.Replaced.{replacing_is_exchange}
use Rattle.shrinking_sets.proofs.laws.replacing_is_exchange.Goals as goal

pub returns : goal.returns
returns c = replacing_is_exchange
