use Rattle.std.proofs.Common.{length}
use Rattle.window_rewrite.proofs.families.+value_at.Given as goal

abbrev pub decreases-value_at : goal.decreases-value_at
decreases-value_at l = length l.left.now
