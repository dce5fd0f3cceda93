use Rattle.std.proofs.Common.{◌≡◌, ◌<◌, ◌≤◌, ℕ, length, false}
use Rattle.thumb_instr.specs.Items.{has}
use Rattle.liveness.specs.Live.{set_at}
use Rattle.liveness.specs.Ahead.{IsAhead}
use Rattle.liveness.specs.Counted.{AreCounted}
use Rattle.liveness.proofs.forward.all_forward.Given as goal

abbrev pub invariant-loop-at : goal.invariant-loop-at
invariant-loop-at l = record {
  within : l.at ≤ length l.ways;
  counted : AreCounted l.marks l.forward;
  many : length l.forward.sets.items ≡ length l.ways;
  none : (q x : ℕ) → q < l.at → has (set_at l.forward.sets.items q) x ≡ false;
  ahead : IsAhead l.ways l.forward.sets.items;
}

abbrev pub decreases-loop-at : goal.decreases-loop-at
decreases-loop-at l = l.at
