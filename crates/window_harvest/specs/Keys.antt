-- Keys of pairs, which stand for them in the set of those that were seen.
use Rattle.std.specs.Prelude.{◌≡◌, ◌≤◌, ◌==◌, ◌&&◌, ℕ, Bool, true, List, [], ◌∷◌, ◌++◌, Some, Contains, ◌⊎◌, ◌↔◌}
use Rattle.std.specs.List.{list_any}
use Rattle.thumb_instr.specs.declared.instr.Instr.{Instr}
use Rattle.thumb_model.specs.Effect.{register_count}
use Rattle.seq_enum.specs.Alphabet.{IsPlace, sequences, IsOver}
use Rattle.window_harvest.specs.Harvest.{Pair}
use Rattle.window_harvest.specs.declared.keys.Key.{Key}

-- a sequence names few registers and is over their alphabet
pub record Lies (regs : ℕ) (pool : List ℕ) (seq : List Instr) : Type 0 where
  pub few : register_count seq ≤ regs
  pub over : IsOver (register_count seq) pool seq

-- the key holds the pair's number of registers, the number of its sequence in their alphabet, and its mask
pub record IsKey (pool : List ℕ) (pair : Pair) (key : Key) : Type 0 where
  pub registers : key.registers ≡ register_count pair.seq
  pub number : IsPlace (Some key.number) (sequences key.registers pool) pair.seq
  pub mask : key.mask ≡ pair.mask

abbrev pub key_eq : Key → Key → Bool
key_eq x y = (x.registers == y.registers) && ((x.number == y.number) && (x.mask == y.mask))

-- the keys are those of the pairs
abbrev pub AreSeen : List ℕ → List Key → List Pair → Type 0
AreSeen pool keys pairs = (pair : Pair) (key : Key) → IsKey pool pair key → (list_any (key_eq key) keys ≡ true) ↔ Contains pairs pair

-- the pair was among them, or was put behind them
abbrev pub IsPut : Pair → List Pair → List Pair → Type 0
IsPut pair old new = (Contains old pair × (new ≡ old)) ⊎ ((Contains old pair → ⊥) × (new ≡ old ++ pair ∷ []))
