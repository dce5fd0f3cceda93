-- The code points of a listing in the order of its lines, and tests of them one after another.
use Rattle.std.specs.Prelude.{ℕ, ◌+◌, ◌&&◌, Bool, true, List, [], ◌∷◌, ◌++◌, length}
use Rattle.thumb_model.specs.Listing.{Name, ListingLine, Place, call_count, labels_at, places_in}
use Rattle.thumb_model.specs.Naming.{Naming, points_of, returns_from}

-- the words of names, at a place
abbrev pub name_points : Naming → ℕ → List Name → List (ℕ × ℕ)
name_points names p [] = []
name_points names p (n ∷ ns) = (names.word_of n, p) ∷ name_points names p ns

-- the code points of lines that begin at a place, the next call being number k: of each line those of its labels, then its return point
abbrev pub points_from : Naming → List Place → ℕ → ℕ → List ListingLine → List (ℕ × ℕ)
points_from names places k p [] = []
points_from names places k p (l ∷ ls) =
    points_of names places (labels_at p l.names) ++ returns_from names k p (places_in l.statement)
    ++ points_from names places (k + call_count (places_in l.statement)) (p + length (places_in l.statement)) ls

-- whether a test that changes from point to point passes each of them
abbrev pub all_pass : {T : Type 0} → (T → ℕ → ℕ → Bool) → (T → ℕ → ℕ → T) → T → List (ℕ × ℕ) → Bool
all_pass passes after t [] = true
all_pass passes after t (x ∷ xs) = passes t x.0 x.1 && all_pass passes after (after t x.0 x.1) xs
