use Rattle.window_exec.proofs.Untold.{equal_is_untold}
use Rattle.window_exec.proofs.laws.equal_sequences_are_untold.Goals as goal

pub returns : goal.returns
returns c = equal_is_untold
