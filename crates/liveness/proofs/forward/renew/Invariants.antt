use Rattle.std.proofs.Common.{◌≡◌, ◌<◌, ℕ, length, true}
use Rattle.kept_places.specs.Marks.{marked}
use Rattle.liveness.specs.Ahead.{IsAheadBut}
use Rattle.liveness.specs.Counted.{AreCounted}
use Rattle.liveness.specs.Within.{IsWired}
use Rattle.liveness.proofs.forward.renew.Given as goal

abbrev pub invariant-loop-place : goal.invariant-loop-place
invariant-loop-place l = record {
  counted : AreCounted l.marks l.forward;
  many : length l.forward.sets.items ≡ length l.ways;
  due : length l.due ≡ length l.fn.due;
  below : (q : ℕ) → marked l.due q ≡ true → q < l._bound;
  ahead : IsWired l.ways l.callers → IsAheadBut l.ways l.fn.forward.sets.items l.fn.due → IsAheadBut l.ways l.forward.sets.items l.due;
}

abbrev pub decreases-loop-place : goal.decreases-loop-place
decreases-loop-place l = l._bound
