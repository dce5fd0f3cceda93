-- The state that an assignment gives, and the statement that the models of the formula are exactly the states that tell the sides apart.
use Rattle.std.specs.Prelude.{ℕ, ◌+◌, ◌*◌, ◌==◌, nat_lt, Bool, List, [], ◌∷◌, if◌then◌else◌, ◌≡◌, ◌<◌, ◌≤◌, true, ◌++◌, ◌⊎◌, ℤ}
use Rattle.std.specs.Int.{from_bool}
use Rattle.cnf_gates.specs.declared.bit.Bit.{Bit}
use Rattle.cnf_gates.specs.Meaning.{bit_value, all_true}
use Rattle.thumb_model.specs.Effect.{Values, n_flag, z_flag, c_flag, v_flag, AreWords, after_all}
use Rattle.bit_blast.specs.Forming.{Bits, word}
use Rattle.bit_blast.specs.Differences.{start_bits, symbol_bits}
use Rattle.thumb_instr.specs.declared.instr.Instr.{Instr}
use Rattle.thumb_instr.specs.Items.{has, is_in_masks}
use Rattle.window_exec.specs.State.{Tells}
use Rattle.cnf_gates.specs.Cnf.{Cnf}
use Rattle.bit_blast.specs.declared.slots.Symbol.{Symbol}
use Rattle.bit_blast.specs.Slots.{Byte, IsValue, instance}

-- ---- the values of words, registers and flags, where m gives the truth values of the variables

-- the number of a word's bits, the lowest first
abbrev pub number_of : (ℕ → Bool) → List Bit → ℕ
number_of m [] = 0
number_of m (x ∷ xs) = from_bool (bit_value m x) + 2 * number_of m xs

-- the value of each item: a register's number, or 0 or 1 for a flag
abbrev pub values_at : (ℕ → Bool) → Bits → Values
values_at m s = λ x.
    if x == n_flag then from_bool (bit_value m s.n)
    else if x == z_flag then from_bool (bit_value m s.z)
    else if x == c_flag then from_bool (bit_value m s.c)
    else if x == v_flag then from_bool (bit_value m s.v)
    else if nat_lt x 15 then number_of m (word s.r x)
    else 0

-- the state that truth values give: registers from k on are 0
abbrev pub start_values : (ℕ → Bool) → ℕ → Values
start_values m k = values_at m (start_bits k)

-- ---- what the models of a formula say about the two sides

-- a mask's items are r0 to r3 and the flags
abbrev pub IsMask : ℕ → Type 0
IsMask mask = (x : ℕ) → has mask x ≡ true → is_in_masks x ≡ true

-- the mask has no register of k or above
abbrev pub IsMaskOver : ℕ → ℕ → Type 0
IsMaskOver k mask = (x : ℕ) → has mask x ≡ true → (x < k) ⊎ (15 ≤ x)

-- the first k registers and the flags are the same
abbrev pub SameOver : ℕ → Values → Values → Type 0
SameOver k v w = (x : ℕ) → ((x < k) × (x < 15)) ⊎ ((15 ≤ x) × (x < 19)) → v x ≡ w x

-- each model of the formula gives a state that tells the sides apart
abbrev pub ModelsTell : Cnf → List Instr → List Instr → ℕ → ℕ → Type 0
ModelsTell f left right mask k = (m : ℕ → Bool) → all_true m f.clauses ≡ true → AreWords (start_values m k) × Tells (start_values m k) left right mask

-- each state that tells the sides apart is given by a model of the formula
abbrev pub TellersAreModels : Cnf → List Instr → List Instr → ℕ → ℕ → Type 0
TellersAreModels f left right mask k =
    (v : Values) → AreWords v → Tells v left right mask → (m : ℕ → Bool) × (all_true m f.clauses ≡ true) × SameOver k (start_values m k) v

-- from every state, each item of the mask is the same after both sides
abbrev pub AreEqual : List Instr → List Instr → ℕ → Type 0
AreEqual left right mask = (v : Values) → AreWords v → (x : ℕ) → has mask x ≡ true → after_all left v x ≡ after_all right v x

-- no truth values make all clauses true
abbrev pub HasNoModel : Cnf → Type 0
HasNoModel f = (m : ℕ → Bool) → all_true m f.clauses ≡ true → ⊥

-- the last clause is empty
abbrev pub EndsInEmpty : Cnf → Type 0
EndsInEmpty f = (cs : List (List ℤ)) × (f.clauses ≡ cs ++ [] ∷ [])

-- ---- the same for sides with holes

-- the symbol's value
abbrev pub value_at : (ℕ → Bool) → ℕ → ℕ
value_at m k = number_of m (symbol_bits k)

-- each model of a family's formula gives a value of the symbol and a state that tells the sides with that value apart
abbrev pub FamilyModelsTell : Cnf → List Instr → List Instr → Symbol → ℕ → ℕ → Type 0
FamilyModelsTell f left right s mask k =
    (m : ℕ → Bool) → all_true m f.clauses ≡ true
    → (x : Byte) × (x.number ≡ value_at m k) × IsValue s x × AreWords (start_values m k) × Tells (start_values m k) (instance s.number left x) (instance s.number right x) mask

-- each value of the symbol and each state that tells the sides with that value apart are given by a model of the formula
abbrev pub FamilyTellersAreModels : Cnf → List Instr → List Instr → Symbol → ℕ → ℕ → Type 0
FamilyTellersAreModels f left right s mask k =
    (x : Byte) → IsValue s x → (v : Values) → AreWords v → Tells v (instance s.number left x) (instance s.number right x) mask
    → (m : ℕ → Bool) × (all_true m f.clauses ≡ true) × (x.number ≡ value_at m k) × SameOver k (start_values m k) v

-- the sides are equal for each value of the symbol
abbrev pub AreEqualForAll : List Instr → List Instr → Symbol → ℕ → Type 0
AreEqualForAll left right s mask = (x : Byte) → IsValue s x → AreEqual (instance s.number left x) (instance s.number right x) mask
