-- The places that are reached, as marks.
use Rattle.std.specs.Prelude.{◌≡◌, ◌↔◌, ℕ, Bool, true, List, length, Some, slice_get}
use Rattle.thumb_model.specs.Listing.{Code}
use Rattle.thumb_model.specs.Flow.{Reached}

-- a mark for each place, which says whether it is reached
pub record AreMarks (code : Code) (marks : List Bool) : Type 0 where
  pub len : length marks ≡ length code.places
  pub says : (p : ℕ) (mark : Bool) → slice_get marks p ≡ Some mark → (mark ≡ true) ↔ Reached code p
