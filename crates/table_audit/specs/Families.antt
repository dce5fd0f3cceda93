-- Families: an entry's rule for each value of a number that stands in 8 bits.
use Rattle.std.specs.Prelude.{◌≡◌, ℕ, zero, suc, ◌+◌, ◌-◌, ◌≤◌, ◌==◌, Bool, true, false, List, length, map, nat_lt, Option, None, slice_get, if◌then◌else◌}
use Rattle.std.specs.List.{list_any}
use Rattle.thumb_instr.specs.declared.instr.Instr.{Instr}
use Rattle.thumb_instr.specs.declared.instr.Instr.TheVariants as instr
use Rattle.thumb_model.specs.Effect.{one_of, Equal}
use Rattle.cnf_gates.specs.Cnf.{Cnf}
use Rattle.bit_blast.specs.declared.slots.Slot.{Slot}
use Rattle.bit_blast.specs.declared.slots.Symbol.{Symbol}
use Rattle.bit_blast.specs.Slots.{Byte, IsValue, filled, instance}
use Rattle.bit_blast.specs.Differences.{family_formula}
use Rattle.seq_enum.specs.Alphabet.{numbers_from, those_within}
use Rattle.rule_table.specs.Header.{Header}
use Rattle.rule_table.specs.Table.{Rule, Family, Table}
use Rattle.table_audit.specs.Shorter.{alphabet_registers, IsBelow, is_named}

-- the entry of a number, counted from 1
abbrev pub entry_at : List Rule → ℕ → Option Rule
entry_at es zero = None
entry_at es (suc n) = slice_get es n

abbrev pub entry_of : Table → Family → Option Rule
entry_of t f = entry_at t.rules f.entry

-- the family of a number, where families are counted behind the entries
abbrev pub family_at : Table → ℕ → Option Family
family_at t n = if nat_lt (length t.rules) n then slice_get t.families (n - length t.rules - 1) else None

-- the instruction is a hole for a number: movs, cmp, adds or subs with that number in 8 bits
abbrev pub is_hole : ℕ → Instr → Bool
is_hole n (instr.TwoNumber o d i) = i.number == n
is_hole n i = false

-- the number is in the pool and in the range, which is within 0 to 255, and the left side has a hole for it
pub record IsRaisable (pool : List ℕ) (f : Family) (left : List Instr) : Type 0 where
  pub pooled : one_of f.number pool ≡ true
  pub from : f.low ≤ f.number
  pub to : f.number ≤ f.high
  pub bytes : f.high ≤ 255
  pub held : list_any (is_hole f.number) left ≡ true

abbrev pub symbol_of : Family → Symbol
symbol_of f = record { number = f.number; low = f.low; high = f.high }

-- the values of the range, in order
abbrev pub values_of : Family → List Byte
values_of f = those_within 0 256 (numbers_from f.low (f.high + 1 - f.low))

-- an entry's rule with a value in the holes for a number
abbrev pub raised : ℕ → Rule → Byte → Rule
raised number e x = record e { left = instance number e.left x; right = instance number e.right x }

-- the formula that the sides of a family's entry differ for some value
abbrev pub raised_formula : Header → Family → Rule → Cnf
raised_formula h f e = family_formula e.left e.right (symbol_of f) e.mask (alphabet_registers h e.left)

-- ---- what holds of an accepted family ----

-- the sides with each value are equal under the mask
abbrev pub AreEqualWithEach : Family → Rule → List ℕ → Type 0
AreEqualWithEach f e mask = (x : Byte) → IsValue (symbol_of f) x → Equal (instance f.number e.left x) (instance f.number e.right x) mask

-- no sequence with holes, which with the family's number in them is below the right side and not named open, leaves the same as the left side for all values
abbrev pub NoneIsShorter : Header → Family → Rule → List ℕ → Type 0
NoneIsShorter h f e mask =
    (n : Byte) → n.number ≡ f.number → (number : ℕ) (other : List Slot) → IsBelow h e.left e.right number (map (filled n) other) → is_named e.opens number ≡ false
    → ((x : Byte) → IsValue (symbol_of f) x → Equal (instance f.number e.left x) (map (filled x) other) mask) → ⊥
