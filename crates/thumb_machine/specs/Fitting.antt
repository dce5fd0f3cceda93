-- The conditions on a naming that fits a listing, as tests that the code computes.
use Rattle.std.specs.Prelude.{ℕ, ◌==◌, ◌&&◌, ◌||◌, not, max, nat_lt, Bool, true, List, Option, Some, None, if◌then◌else◌}
use Rattle.std.specs.List.{list_all}
use Rattle.thumb_machine.specs.declared.distinct.Rising.{Rising}
use Rattle.thumb_model.specs.Listing.{Name, Label, has_label}
use Rattle.thumb_model.specs.Naming.{Naming, is_in_range, is_odd}

-- ---- code points ----

-- whether a word is odd and in the range
abbrev pub is_code_word : Naming → ℕ → Bool
is_code_word names word = is_odd word && is_in_range names word

-- whether two code points have the same place or different words
abbrev pub apart : ℕ × ℕ → ℕ × ℕ → Bool
apart x y = (x.1 == y.1) || not (x.0 == y.0)

-- whether each two of the list do
abbrev pub all_apart : List (ℕ × ℕ) → Bool
all_apart xs = list_all (λ x. list_all (apart x) xs) xs

-- the state of the test, after one more code point: the greatest word before the last place, that place, and the greatest of all
abbrev pub risen : Rising → ℕ → ℕ → Rising
risen r word place = record {
  below = if place == r.place then r.below else r.greatest;
  place = place;
  greatest = max r.greatest word;
}

-- whether a word is greater than those of all earlier places
abbrev pub rises : Rising → ℕ → ℕ → Bool
rises r word place = nat_lt (if place == r.place then r.below else r.greatest) word

-- ---- external names ----

-- whether a name has a label or a word outside the range
abbrev pub is_outside : Naming → List Label → Option Name → Bool
is_outside names labels None = true
is_outside names labels (Some n) = has_label n labels || not (is_in_range names (names.word_of n))
