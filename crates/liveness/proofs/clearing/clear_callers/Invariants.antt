use Rattle.std.proofs.Common.{◌≡◌, ◌≤◌, ℕ, length, true}
use Rattle.thumb_instr.specs.Items.{has}
use Rattle.liveness.specs.Live.{set_at}
use Rattle.liveness.specs.Graph.{AreCallers, ways_at}
use Rattle.liveness.specs.Passing.{passes_to, Keeps}
use Rattle.liveness.specs.Walk.{ClearsOn, IsFitWalk}
use Rattle.liveness.proofs.Callers.{AreDone}
use Rattle.liveness.proofs.clearing.clear_callers.Given as goal

abbrev pub invariant-loop-rest : goal.invariant-loop-rest
invariant-loop-rest l = record {
  fit : IsFitWalk l.marks (length l.ways) l.walk;
  on : ClearsOn l.fn.walk l.walk;
  within : l.rest ≤ length l.callers.jumps.items;
  told : AreCallers l.ways (length l.ways) l.callers → AreDone l.ways l.callers.jumps.items l.place l.rest
      (λ p. (x : ℕ) → has l.items.bits x ≡ true → passes_to l.place (ways_at l.ways p) x ≡ true → has (set_at l.walk.before.sets.items p) x ≡ true → Keeps l.ways l.forward p x);
}

abbrev pub decreases-loop-rest : goal.decreases-loop-rest
decreases-loop-rest l = l.rest
