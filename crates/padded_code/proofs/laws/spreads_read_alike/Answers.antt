use Rattle.padded_code.proofs.Spread.{spreads_read_alike}
use Rattle.padded_code.proofs.laws.spreads_read_alike.Goals as goal

pub returns : goal.returns
returns c = spreads_read_alike
