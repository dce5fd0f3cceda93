use Rattle.std.proofs.Common.{◌≡◌, ℕ, length, take, true}
use Rattle.thumb_instr.specs.Items.{has, one_of}
use Rattle.liveness.specs.Live.{set_at}
use Rattle.liveness.specs.Graph.{ways_at}
use Rattle.liveness.specs.Passing.{passes_points, Keeps}
use Rattle.liveness.specs.Walk.{ClearsOn, IsFitWalk}
use Rattle.liveness.proofs.clearing.clear_returns.Given as goal

abbrev pub invariant-loop-place : goal.invariant-loop-place
invariant-loop-place l = record {
  fit : IsFitWalk l.marks (length l.ways) l.walk;
  on : ClearsOn l.fn.walk l.walk;
  told : (p x : ℕ) → one_of p (take l.place-index l.returns) ≡ true → has l.items.bits x ≡ true → passes_points (ways_at l.ways p) x ≡ true → has (set_at l.walk.before.sets.items p) x ≡ true → Keeps l.ways l.forward p x;
}
