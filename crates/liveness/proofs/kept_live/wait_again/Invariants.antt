use Rattle.std.proofs.Common.{◌≡◌, ℕ, take, true}
use Rattle.thumb_instr.specs.Items.{one_of}
use Rattle.liveness.proofs.kept_live.wait_again.Given as goal

abbrev pub invariant-loop-number : goal.invariant-loop-number
invariant-loop-number l = record {
  before : l.walk.before ≡ l.fn.walk.before;
  was : l.walk.was ≡ l.fn.walk.was;
  touched : l.walk.touched ≡ l.fn.walk.touched;
  room : l.walk.stack.room ≡ l.fn.walk.stack.room;
  waits : (q : ℕ) → one_of q (take l.number l.fn.walk.touched.places) ≡ true → one_of q l.walk.stack.places ≡ true;
}
