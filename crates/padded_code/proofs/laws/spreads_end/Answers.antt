use Rattle.padded_code.proofs.Spread.{spreads_end}
use Rattle.padded_code.proofs.laws.spreads_end.Goals as goal

pub returns : goal.returns
returns c = spreads_end
