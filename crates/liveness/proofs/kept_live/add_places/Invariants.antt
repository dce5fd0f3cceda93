use Rattle.std.proofs.Common.{◌≡◌, ◌<◌, ◌≤◌, ℕ, length, true}
use Rattle.kept_places.specs.Marks.{marked}
use Rattle.liveness.proofs.kept_live.add_places.Given as goal

abbrev pub invariant-loop-place : goal.invariant-loop-place
invariant-loop-place l = record {
  many : length l.due ≡ length l.fn.due;
  these : (q : ℕ) → l.first ≤ q → q < l.place → marked l.due q ≡ true;
}
