-- Sets of places as words of 64 bits.
use Rattle.std.specs.Prelude.{◌≡◌, ℕ, ◌+◌, ◌*◌, ◌/◌, ◌%◌, ◌<◌, ◌≤◌, ◌==◌, Bool, false, List, length, map, slice_index}
use Rattle.std.specs.Int.{bit_at}
use Rattle.std.specs.List.{range_with_len}
use Rattle.kept_places.specs.declared.set.PlaceSet.TheInside.{Inside}

-- whether the bit of place p is set
abbrev pub has : List ℕ → ℕ → Bool
has words p = bit_at (slice_index words (p / 64)) (p % 64) == 1

-- the marks of n places, by the bits of words
abbrev pub marks_of : ℕ → List ℕ → List Bool
marks_of n words = map (has words) (range_with_len 0 n)

-- no bit is set past the places, nor in the words before `least` or from `past` on
pub record AreMembers (s : Inside) : Type 0 where
  pub as_many : length s.words.items ≡ s.count / 64 + 1
  pub clean : (p : ℕ) → s.count ≤ p → has s.words.items p ≡ false
  pub before : (p : ℕ) → p < s.least * 64 → has s.words.items p ≡ false
  pub past_within : s.past ≤ length s.words.items
  pub behind : (p : ℕ) → s.past * 64 ≤ p → has s.words.items p ≡ false
