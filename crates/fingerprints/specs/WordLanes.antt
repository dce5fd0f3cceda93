-- Eight sums or shifts as values, lane by lane.
use Rattle.std.specs.Prelude.{ℕ, Bool, List, ◌==◌, slice_index}
use Rattle.std.specs.Int.{bit_at}
use Rattle.word_bits.specs.declared.Sum.{Sum}
use Rattle.fingerprints.specs.declared.sums.Sums.{Sums}
use Rattle.fingerprints.specs.declared.shifts.Moved.{Moved}

-- bit 31 of a lane
abbrev pub set_at : List ℕ → ℕ → Bool
set_at xs i = bit_at (slice_index xs i) 31 == 1

abbrev pub sum_at : Sums → ℕ → Sum
sum_at s i = record { value = slice_index s.value i; c = set_at s.c i; v = set_at s.v i }

abbrev pub moved_at : Moved → ℕ → ℕ × Bool
moved_at m i = (slice_index m.value i, set_at m.c i)

-- whether a lane is zero
abbrev pub zero_at : List ℕ → ℕ → Bool
zero_at xs i = slice_index xs i == 0
