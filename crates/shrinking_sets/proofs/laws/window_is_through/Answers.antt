use Rattle.shrinking_sets.proofs.Window.{window_is_through}
use Rattle.shrinking_sets.proofs.laws.window_is_through.Goals as goal

pub returns : goal.returns
returns c = window_is_through
