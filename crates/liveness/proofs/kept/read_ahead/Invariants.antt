use Rattle.std.proofs.Common.{◌≡◌, ◌≤◌, ℕ, length, drop}
use Rattle.thumb_instr.specs.Items.{has}
use Rattle.liveness.specs.Through.{read_along}
use Rattle.liveness.proofs.kept.read_ahead.Given as goal

abbrev pub invariant-loop-at : goal.invariant-loop-at
invariant-loop-at l = record { within : l.at ≤ length l.ahead; read : (x : ℕ) → has l.read.bits x ≡ read_along (drop l.at l.ahead) x }

abbrev pub decreases-loop-at : goal.decreases-loop-at
decreases-loop-at l = l.at
