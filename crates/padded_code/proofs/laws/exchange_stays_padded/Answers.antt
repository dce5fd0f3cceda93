use Rattle.padded_code.proofs.Exchanged.{stays_padded}
use Rattle.padded_code.proofs.laws.exchange_stays_padded.Goals as goal

pub returns : goal.returns
returns c = stays_padded
