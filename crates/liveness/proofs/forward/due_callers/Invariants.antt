use Rattle.std.proofs.Common.{◌≡◌, ◌<◌, ◌≤◌, ℕ, length, true, ◌⊎◌}
use Rattle.kept_places.specs.Marks.{marked}
use Rattle.liveness.specs.Graph.{AreCallers}
use Rattle.liveness.proofs.Callers.{AreDone}
use Rattle.liveness.proofs.forward.due_callers.Given as goal

abbrev pub invariant-loop-rest : goal.invariant-loop-rest
invariant-loop-rest l = record {
  many : length l.due ≡ length l.fn.due;
  within : l.rest ≤ length l.callers.jumps.items;
  kept : (q : ℕ) → marked l.fn.due q ≡ true → marked l.due q ≡ true;
  below : (q : ℕ) → marked l.due q ≡ true → (marked l.fn.due q ≡ true) ⊎ (q < l.place);
  told : AreCallers l._ways (length l._ways) l.callers → AreDone l._ways l.callers.jumps.items l.place l.rest (λ q. q < l.place → marked l.due q ≡ true);
}

abbrev pub decreases-loop-rest : goal.decreases-loop-rest
decreases-loop-rest l = l.rest
