-- The invariant of a walk: its sequence, the sequence's number, and the place of the last instruction agree.
use Rattle.std.specs.Prelude.{◌≡◌, ◌≤◌, ◌<◌, ℕ, ◌-◌, ◌%◌, ◌^◌, List, length, slice_get, Some}
use Rattle.thumb_instr.specs.declared.instr.Instr.{Instr}
use Rattle.seq_enum.specs.Alphabet.{words}
use Rattle.seq_enum.specs.Places.{sum_below}
use Rattle.seq_enum.specs.declared.walk.Walk.{Walk}

-- how many sequences have fewer than n instructions
abbrev pub shorter : List Instr → ℕ → ℕ
shorter alphabet n = sum_below (λ m. length alphabet ^ m) n

-- a sequence has this number, and its last instruction this place in the alphabet
pub record Stands (alphabet seq : List Instr) (number last : ℕ) : Type 0 where
  pub some : 0 < length alphabet
  pub few : length alphabet ≤ 1952
  pub short : length seq ≤ 5
  pub behind : shorter alphabet (length seq) ≤ number
  pub word : slice_get (words alphabet (length seq)) (number - shorter alphabet (length seq)) ≡ Some seq
  pub digit : (number - shorter alphabet (length seq)) % length alphabet ≡ last

abbrev pub IsWalk : Walk → Type 0
IsWalk w = Stands w.alphabet.now w.instrs.items w.number w.last
