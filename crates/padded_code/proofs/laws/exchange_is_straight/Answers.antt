use Rattle.padded_code.proofs.Spread.{exchange_is_straight}
use Rattle.padded_code.proofs.laws.exchange_is_straight.Goals as goal

pub returns : goal.returns
returns c = exchange_is_straight
