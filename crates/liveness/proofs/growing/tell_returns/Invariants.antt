use Rattle.std.proofs.Common.{◌≡◌, ◌≤◌, ℕ, length, take, true}
use Rattle.thumb_instr.specs.Items.{one_of}
use Rattle.liveness.proofs.growing.tell_returns.Given as goal

abbrev pub invariant-loop-place : goal.invariant-loop-place
invariant-loop-place l = record {
  room : l.stack.room ≡ l.fn.stack.room;
  few : length l.stack.places ≤ l.stack.room;
  kept : (q : ℕ) → one_of q l.fn.stack.places ≡ true → one_of q l.stack.places ≡ true;
  told : (q : ℕ) → one_of q (take l.place-index l.returns) ≡ true → one_of q l.stack.places ≡ true;
}
