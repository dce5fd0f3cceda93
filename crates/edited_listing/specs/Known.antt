-- The tables of `GivenListing`: for each given place, where the last label and the last break between instructions stand.
use Rattle.std.specs.Prelude.{◌≡◌, ℕ, zero, suc, ◌+◌, ◌≤◌, ◌&&◌, Bool, true, false, List, [], ◌∷◌, ◌++◌, length, replicate, Option, Some, None, slice_get, if◌then◌else◌}
use Rattle.thumb_model.specs.Listing.{ListingLine, Label, places_in}
use Rattle.window_runs.specs.declared.rows.WindowPlace.{WindowPlace}
use Rattle.window_runs.specs.Rows.{rows_from}
use Rattle.edited_listing.specs.declared.given.GivenListing.TheInside.{Inside}
use Rattle.edited_listing.specs.Counting.{some_name}

-- whether a place is joined to the one before
abbrev pub row_joined : Option WindowPlace → Bool
row_joined None = false
row_joined (Some r) = r.is_joined

abbrev pub joined_at : List WindowPlace → ℕ → Bool
joined_at rows p = row_joined (slice_get rows p)

-- whether f holds of all n numbers from p on
abbrev pub all_from : (ℕ → Bool) → ℕ → ℕ → Bool
all_from f p zero = true
all_from f p (suc n) = f p && all_from f (suc p) n

-- some label stands right before the place
pub record HasLabelAt (labels : List Label) (place : ℕ) : Type 0 where
  pub number : ℕ
  pub label : Label
  pub is : slice_get labels number ≡ Some label
  pub at : label.place ≡ place

-- some label stands right before one of the places from low to high
pub record HasLabelIn (labels : List Label) (low high : ℕ) : Type 0 where
  pub number : ℕ
  pub label : Label
  pub is : slice_get labels number ≡ Some label
  pub from : low ≤ label.place
  pub to : label.place ≤ high

-- for each row, from place p on, one more than the last place up to it that isn't joined to the place before
abbrev pub last_breaks : ℕ → ℕ → List WindowPlace → List ℕ
last_breaks p last [] = []
last_breaks p last (r ∷ rs) = (if r.is_joined then last else suc p) ∷ last_breaks (suc p) (if r.is_joined then last else suc p) rs

-- for each place of the lines, from place p on, one more than the place of the last label up to it
abbrev pub last_labels : ℕ → ℕ → List ListingLine → List ℕ
last_labels p last [] = []
last_labels p last (l ∷ ls) = replicate (length (places_in l.statement)) (if some_name l.names then suc p else last) ++ last_labels (p + length (places_in l.statement)) (if some_name l.names then suc p else last) ls

-- the tables are those of the lines
pub record IsKnown (s : Inside) : Type 0 where
  pub rows : s.rows.items ≡ rows_from false s.listing
  pub breaks : s.breaks.items ≡ last_breaks 0 0 (rows_from false s.listing)
  pub labels : s.labels.items ≡ last_labels 0 0 s.listing
