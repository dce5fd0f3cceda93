use Rattle.padded_code.proofs.Windows.{live_behind}
use Rattle.padded_code.proofs.laws.live_is_read_behind.Goals as goal

pub returns : goal.returns
returns c = live_behind
