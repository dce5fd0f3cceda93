use Rattle.padded_code.proofs.Padded.{live_alike}
use Rattle.padded_code.proofs.laws.padding_keeps_live.Goals as goal

pub returns : goal.returns
returns c = live_alike
