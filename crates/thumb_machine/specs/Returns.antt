-- The words of the return points of calls.
use Rattle.std.specs.Prelude.{◌≡◌, ℕ, ◌+◌, ◌<◌, Bool, false, List, length, Option, Some, None, slice_index}
use Rattle.thumb_model.specs.Listing.{ListingLine, Place, is_call}
use Rattle.thumb_model.specs.Naming.{return_address}

abbrev pub is_call_place : Option Place → Bool
is_call_place None = false
is_call_place (Some p) = is_call p

-- the list holds the words of the first `calls` calls' return points
pub record AreReturns (base : ℕ) (lines : List ListingLine) (calls : ℕ) (list : List ℕ) : Type 0 where
  pub count : length list ≡ calls
  pub words : (k : ℕ) → k < calls → slice_index list k ≡ return_address k base lines + 1
