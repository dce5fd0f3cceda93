use Rattle.std.proofs.Common.{◌≡◌, ℕ, take, true}
use Rattle.thumb_instr.specs.Items.{one_of}
use Rattle.kept_places.specs.Marks.{marked}
use Rattle.liveness.specs.Waiting.{WaitMore}
use Rattle.liveness.proofs.settling.tell_returns.Given as goal

abbrev pub invariant-loop-place : goal.invariant-loop-place
invariant-loop-place l = record {
  more : WaitMore l.fn.waiting l.waiting;
  told : (q : ℕ) → one_of q (take l.place-index l.returns) ≡ true → marked l.waiting.marks.items q ≡ true;
}
