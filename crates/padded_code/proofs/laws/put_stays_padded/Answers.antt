use Rattle.padded_code.proofs.Exchanged.{put_stays}
use Rattle.padded_code.proofs.laws.put_stays_padded.Goals as goal

pub returns : goal.returns
returns c = put_stays
