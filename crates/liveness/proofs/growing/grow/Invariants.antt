use Rattle.std.proofs.Common.{◌≡◌, ◌-◌, ◌+◌, ◌*◌, ℕ, length, true}
use Rattle.thumb_instr.specs.Items.{has}
use Rattle.liveness.specs.Live.{set_at}
use Rattle.liveness.specs.Passes.{total}
use Rattle.liveness.specs.Counted.{AreCounted}
use Rattle.liveness.specs.Grows.{IsGrownBy}
use Rattle.liveness.proofs.growing.grow.Given as goal

abbrev pub invariant-loop-place : goal.invariant-loop-place
invariant-loop-place l = record {
  counted : AreCounted l.graph.is_point.items l.before;
  many : length l.before.sets.items ≡ length l.ways;
  room : l.stack.room ≡ length l.ways;
  more : (p x : ℕ) → has (set_at l.fn.before.sets.items p) x ≡ true → has (set_at l.before.sets.items p) x ≡ true;
  grown : IsGrownBy l.ways l.graph l.fn.before.sets.items l.fn.stack.places l.before.sets.items l.stack.places;
}

abbrev pub decreases-loop-place : goal.decreases-loop-place
decreases-loop-place l = (19 * length l.ways - total l.before.sets.items) * (length l.ways + 1) + length l.stack.places
