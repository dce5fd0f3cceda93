use Rattle.std.proofs.Common.{◌≡◌, ℕ, ◌-◌, ◌<◌, ◌≤◌, Some, true, length}
use Rattle.std.specs.Prelude.{slice_get}
use Rattle.flow_tidy.proofs.due_places.past_free.Given as goal

abbrev pub invariant-loop-place : goal.invariant-loop-place
invariant-loop-place l = record {
  from : l.fn.from ≤ l.place;
  within : l.place ≤ length l.marks;
  free : (k : ℕ) → l.fn.from ≤ k → k < l.place → slice_get l.marks k ≡ Some true → ⊥;
}

abbrev pub decreases-loop-place : goal.decreases-loop-place
decreases-loop-place l = length l.marks - l.place
