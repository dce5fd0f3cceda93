use Rattle.padded_code.proofs.Exchanged.{whole_padded}
use Rattle.padded_code.proofs.laws.whole_is_padded.Goals as goal

pub returns : goal.returns
returns c = whole_padded
