use Rattle.padded_code.proofs.Windows.{window_kept}
use Rattle.padded_code.proofs.laws.windows_are_kept.Goals as goal

pub returns : goal.returns
returns c = window_kept
