use Rattle.std.proofs.Common.{◌≡◌, ◌<◌, ◌≤◌, ℕ, length, true, false, ◌⊎◌}
use Rattle.thumb_instr.specs.Items.{has, one_of}
use Rattle.liveness.specs.Live.{set_at}
use Rattle.liveness.specs.Walk.{start_at, IsFitWalk}
use Rattle.liveness.proofs.clearing.begin.Given as goal

abbrev pub invariant-loop-place : goal.invariant-loop-place
invariant-loop-place l = record {
  fit : IsFitWalk l.marks (length l.forward) l.walk;
  many : length l.walk.was.items ≡ length l.forward;
  stack : l.walk.stack ≡ l.fn.walk.stack;
  start : (p : ℕ) → start_at l.walk p ≡ start_at l.fn.walk p;
  apart : (p : ℕ) → (p ≤ l.old.first) ⊎ (l.place ≤ p) → set_at l.walk.before.sets.items p ≡ set_at l.fn.walk.before.sets.items p;
  inside : (p x : ℕ) → l.old.first < p → p < l.place → has (set_at l.walk.before.sets.items p) x ≡ false;
  touched : (p : ℕ) → l.old.first < p → p < l.place → one_of p l.walk.touched.places ≡ true;
}
