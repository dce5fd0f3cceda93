use Rattle.std.proofs.Common.{◌≡◌, length}
use Rattle.liveness.proofs.Losts.{IsTelling}
use Rattle.liveness.proofs.kept_live.tell_lost.Given as goal

abbrev pub invariant-loop-place : goal.invariant-loop-place
invariant-loop-place l = record {
  before : l.walk.before ≡ l.fn.walk.before;
  was : l.walk.was ≡ l.fn.walk.was;
  stack : l.walk.stack ≡ l.fn.walk.stack;
  room : l.walk.touched.room ≡ l.fn.walk.touched.room;
  telling : IsTelling l.fn.walk.touched.places l.walk.touched.places l.fn.walk.was.items l.fn.walk.before.sets.items l.fn.lost l.lost;
}

abbrev pub decreases-loop-place : goal.decreases-loop-place
decreases-loop-place l = length l.walk.touched.places
