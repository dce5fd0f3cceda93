use Rattle.padded_code.proofs.Windows.{windows_stand}
use Rattle.padded_code.proofs.laws.windows_stand_alike.Goals as goal

pub returns : goal.returns
returns c = windows_stand
