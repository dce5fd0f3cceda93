-- The invariant of the search for reached places: what is marked, and what is still to be followed.
use Rattle.std.specs.Prelude.{◌≡◌, ℕ, ◌+◌, ◌<◌, Bool, true, List, [], ◌∷◌, length, Some, slice_get, ◌⊎◌, if◌then◌else◌}
use Rattle.thumb_instr.specs.Items.{one_of}
use Rattle.thumb_model.specs.Listing.{Code, IsPoint}
use Rattle.thumb_model.specs.Flow.{Way, ways, Follows, Reached}
use Rattle.code_flow.specs.declared.way.Next.{Next}
use Rattle.code_flow.specs.declared.way.Next.TheVariants.{Place, Points, Out}
use Rattle.code_flow.specs.declared.reaching.Reaching.{Reaching}
use Rattle.kept_places.specs.Marks.{marked}

-- a way that names a place goes there
abbrev pub GoesTo : Next → ℕ → Type 0
GoesTo (Place p) q = q ≡ p
GoesTo Points q = ⊥
GoesTo Out q = ⊥

-- how many places are not marked
unfoldable pub unmarked : List Bool → ℕ
unmarked [] = 0
unmarked (m ∷ ms) = if m then unmarked ms else unmarked ms + 1

-- how many visits there may still be
abbrev pub left : Reaching → ℕ
left r = length r.waiting.items + unmarked r.marks.items

-- the places to which the ways of p lead are marked
abbrev pub IsFollowed : Code → List Bool → ℕ → Type 0
IsFollowed code marks p = (k : ℕ) (w : Way) (q : ℕ) → slice_get (ways code p) k ≡ Some w → Follows code p w.leads q → q < length marks → marked marks q ≡ true

-- the code points are marked
abbrev pub HasAllPoints : Code → List Bool → Type 0
HasAllPoints code marks = (q : ℕ) → IsPoint code q → q < length marks → marked marks q ≡ true

-- what is marked is reached, and its ways are followed, except those of places that wait or are among the others
pub record IsReaching (code : Code) (others : List ℕ) (r : Reaching) : Type 0 where
  pub len : length r.marks.items ≡ length code.places
  pub sound : (q : ℕ) → marked r.marks.items q ≡ true → Reached code q
  pub waiting : (q : ℕ) → one_of q r.waiting.items ≡ true → marked r.marks.items q ≡ true
  pub followed : (p : ℕ) → marked r.marks.items p ≡ true → (one_of p r.waiting.items ≡ true) ⊎ (one_of p others ≡ true) ⊎ IsFollowed code r.marks.items p

-- what was marked still is, and as many visits may still come as before
pub record MarksMore (r s : Reaching) : Type 0 where
  pub len : length s.marks.items ≡ length r.marks.items
  pub kept : (q : ℕ) → marked r.marks.items q ≡ true → marked s.marks.items q ≡ true
  pub left : left s ≡ left r
