use Rattle.std.proofs.Common.{◌≡◌, ◌≤◌, ℕ, length, true}
use Rattle.thumb_instr.specs.Items.{one_of}
use Rattle.liveness.specs.Graph.{AreCallers}
use Rattle.liveness.proofs.Callers.{AreDone}
use Rattle.liveness.proofs.growing.tell_callers.Given as goal

abbrev pub invariant-loop-rest : goal.invariant-loop-rest
invariant-loop-rest l = record {
  room : l.stack.room ≡ length l._ways;
  within : l.rest ≤ length l.callers.jumps.items;
  few : length l.stack.places ≤ l.stack.room;
  kept : (q : ℕ) → one_of q l.fn.stack.places ≡ true → one_of q l.stack.places ≡ true;
  told : AreCallers l._ways (length l._ways) l.callers → AreDone l._ways l.callers.jumps.items l.place l.rest (λ q. one_of q l.stack.places ≡ true);
}

abbrev pub decreases-loop-rest : goal.decreases-loop-rest
decreases-loop-rest l = l.rest
