use Rattle.std.proofs.Common.{◌≡◌, ℕ, ◌<◌, ◌≤◌, ◌++◌, Some, true, drop, length, slice_get}
use Rattle.thumb_model.specs.Listing.{code_of, places_of}
use Rattle.flow_tidy.specs.DuePlaces.{IsCaused}
use Rattle.flow_tidy.specs.Halves.{wides_before}
use Rattle.flow_tidy.proofs.widest_layout.look_over.Given as goal

abbrev pub invariant-loop-place : goal.invariant-loop-place
invariant-loop-place l = record {
  few : l.count ≤ l.place;
  wide : l.wide.items ++ wides_before l.count (drop l.place (places_of l.listing)) ≡ wides_before 0 (places_of l.listing);
  many : length l.due.items ≡ l.place;
  due : (p : ℕ) → p < l.place → IsCaused (code_of l.listing) p → slice_get l.due.items p ≡ Some true;
}
