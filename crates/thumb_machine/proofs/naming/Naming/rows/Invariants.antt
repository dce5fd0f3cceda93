use Rattle.std.proofs.Common.{◌≡◌, ◌≤◌, ◌<◌, ℕ, take, vec_len}
use Rattle.std.specs.Prelude.{slice_get}
use Rattle.thumb_model.specs.Listing.{code_of, call_count, places_of}
use Rattle.thumb_machine.specs.Naming.{naming_of}
use Rattle.thumb_machine.specs.Running.{IsPlaceContents}
use Rattle.thumb_machine.proofs.naming.Naming.rows.Given as goal

abbrev pub invariant-loop-place : goal.invariant-loop-place
invariant-loop-place l = record {
  count : vec_len l.rows ≡ l.place;
  calls : l.calls ≡ call_count (take l.place (places_of l.listing));
  few : l.calls ≤ l.place;
  rows : (p : ℕ) → p < l.place → IsPlaceContents (naming_of l.self) (code_of l.listing) p (slice_get (places_of l.listing) p) (slice_get l.rows.items p);
}
