use Rattle.std.proofs.Common.{◌≡◌, ◌*◌, ◌+◌, ℕ, length, true}
use Rattle.thumb_instr.specs.Items.{has, one_of}
use Rattle.liveness.specs.Passes.{total}
use Rattle.liveness.specs.Graph.{AreReturns}
use Rattle.liveness.specs.Clears.{IsSettledBy, ReturnsClear}
use Rattle.liveness.specs.Walk.{start_at, IsFitWalk}
use Rattle.liveness.proofs.clearing.clear.Given as goal

abbrev pub invariant-loop-place : goal.invariant-loop-place
invariant-loop-place l = record {
  fit : IsFitWalk l.graph.is_point.items (length l.ways) l.walk;
  start : (p : ℕ) → start_at l.walk p ≡ start_at l.fn.walk p;
  touched : (p : ℕ) → one_of p l.fn.walk.touched.places ≡ true → one_of p l.walk.touched.places ≡ true;
  returns : AreReturns l.ways (length l.ways) l.graph.returns.items → (x : ℕ) → has l.gone.bits x ≡ true → ReturnsClear l.ways l.forward.sets.items l.walk x;
  settled : IsSettledBy l.ways l.graph l.forward l.window l.fn.walk l.walk;
}

abbrev pub decreases-loop-place : goal.decreases-loop-place
decreases-loop-place l = 2 * total l.walk.before.sets.items + length l.walk.stack.places
