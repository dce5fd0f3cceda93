use Rattle.std.proofs.Common.{◌≡◌, ◌<◌, ℕ, length}
use Rattle.liveness.specs.Live.{set_at}
use Rattle.liveness.specs.Counted.{AreCounted}
use Rattle.liveness.proofs.starting.walk_of.Given as goal

abbrev pub invariant-loop-place : goal.invariant-loop-place
invariant-loop-place l = record {
  counted : AreCounted l.marks l.before;
  many : length l.before.sets.items ≡ length l.sets;
  same : (q : ℕ) → q < l.place → set_at l.before.sets.items q ≡ set_at l.sets q;
}
