-- Which sides an entry may have, and which sequences are below its right side: shorter, or with costs cheaper.
use Rattle.std.specs.Prelude.{◌≡◌, ◌≤◌, ◌+◌, ℕ, List, length, map, min, ◌<◌, ◌==◌, ◌&&◌, Bool, Any, Option, Some, None, filter, nat_le, nat_lt, slice_get, if◌then◌else◌}
use Rattle.thumb_instr.specs.declared.instr.Instr.{Instr}
use Rattle.thumb_instr.specs.Window.{normal_of}
use Rattle.seq_enum.specs.Alphabet.{numbers_from, IsOver, alphabet, words, sequences}
use Rattle.seq_enum.specs.Costs.{weight_under}
use Rattle.cnf_gates.specs.Cnf.{Cnf}
use Rattle.bit_blast.specs.Differences.{sides_formula}
use Rattle.bit_blast.specs.Exactness.{IsMaskOver}
use Rattle.rule_table.specs.Canonical.{IsRenamable, appearing}
use Rattle.rule_table.specs.Header.{Header}
use Rattle.rule_table.specs.Table.{Rule, Table, Opened}
use Rattle.std.specs.Option.{option_and_then}
use Rattle.std.specs.List.{flat_map, list_any}
use Rattle.thumb_model.specs.Effect.{Values}
use Rattle.window_exec.specs.State.{Tells, Seen, values_by}

-- The sides that an entry of a table may have.

-- how many registers instructions name
abbrev pub named_count : List Instr → ℕ
named_count instrs = length (appearing instrs)

-- this number of registers, plus the scratch register where the header allows one, but at most four
abbrev pub with_scratch : Header → ℕ → ℕ
with_scratch h registers = min (registers + h.scratch) 4

-- how many registers the sequences may use that are compared with a left side, the right side too: those that it names, and the scratch register
abbrev pub alphabet_registers : Header → List Instr → ℕ
alphabet_registers h left = with_scratch h (named_count left)

-- a sequence is its own canonical form: it has one, each instruction is normal, and its registers are r0, r1 and so on by first appearance
pub record IsCanonicalSide (side : List Instr) : Type 0 where
  pub renamable : IsRenamable side
  pub normal : map normal_of side ≡ side
  pub in_order : appearing side ≡ numbers_from 0 (named_count side)

-- an entry's sides and its mask are what the table's header allows
pub record SidesFit (t : Table) (e : Rule) : Type 0 where
  pub canonical : IsCanonicalSide e.left
  pub short : length e.left ≤ t.header.left
  pub few : named_count e.left ≤ t.header.regs
  -- the left side is of the alphabet of the registers that it names, the right side of the entry's
  pub left : IsOver (named_count e.left) t.header.pool e.left
  pub right : IsOver (alphabet_registers t.header e.left) t.header.pool e.right
  pub no_longer : length e.right ≤ length e.left
  -- nor does the right side cost more
  pub no_dearer : weight_under t.header.costs e.right ≤ weight_under t.header.costs e.left
  -- the mask has no register that the left side doesn't name, so not the scratch register
  pub mask : IsMaskOver (named_count e.left) e.mask

-- the formula that an entry's left side and a sequence differ in some item of its mask
abbrev pub formula_against : Header → Rule → List Instr → Cnf
formula_against h e seq = sides_formula e.left seq e.mask (alphabet_registers h e.left)

-- that of the two sides
abbrev pub formula_of : Header → Rule → Cnf
formula_of h e = formula_against h e e.right

-- The sequences below a side of an entry, and the states that tell them: those that are shorter, or cheaper where the table has costs.

-- the sequences of an alphabet that have fewer than n instructions, by number
unfoldable pub sequences_below : ℕ → List ℕ → ℕ → List (List Instr)
sequences_below k pool n = flat_map (words (alphabet k pool)) (numbers_from 0 n)

-- how much a sequence weighs by a table: what it costs, or without costs how long it is
abbrev pub weight_in : Header → List Instr → ℕ
weight_in h seq = weight_under h.costs seq

-- the number is that of a sequence of the entry's alphabet, which is no longer than the left side and weighs less than this side
pub record IsBelow (h : Header) (left side : List Instr) (number : ℕ) (seq : List Instr) : Type 0 where
  pub at : slice_get (sequences (alphabet_registers h left) h.pool) number ≡ Some seq
  pub no_longer : length seq ≤ length left
  pub lighter : weight_in h seq < weight_in h side

-- whether a sequence weighs less than a limit
abbrev pub is_lighter : Option (List ℕ) → ℕ → List Instr → Bool
is_lighter costs limit seq = nat_lt (weight_under costs seq) limit

-- all sequences no longer than the left side that weigh less than this side
unfoldable pub below : Header → (left side : List Instr) → List (List Instr)
below h left side = filter (is_lighter h.costs (weight_in h side)) (sequences_below (alphabet_registers h left) h.pool (length left + 1))

-- a sequence, where it is no longer than the left side and weighs less than the other side
abbrev pub if_below : Option (List ℕ) → (left side seq : List Instr) → Option (List Instr)
if_below costs left side seq = if nat_le (length seq) (length left) && nat_lt (weight_under costs seq) (weight_under costs side) then Some seq else None

-- the sequence of a number over the first k registers and a pool, if there is one and it is below
unfoldable pub lighter_at : Option (List ℕ) → ℕ → List ℕ → (left side : List Instr) → ℕ → Option (List Instr)
lighter_at costs k pool left side number = option_and_then (if_below costs left side) (slice_get (sequences k pool) number)

-- the sequence of a number over an entry's alphabet, if it is below
abbrev pub below_at : Header → (left side : List Instr) → ℕ → Option (List Instr)
below_at h left side number = lighter_at h.costs (alphabet_registers h left) h.pool left side number

-- the values of registers and flags in a state that a table lists
abbrev pub values_in : Seen → Values
values_in s = values_by s.r s.nzcv

-- some state tells the two sequences apart under a mask
abbrev pub IsTold : List Seen → List Instr → List Instr → ℕ → Type 0
IsTold states left right mask = Any (λ s. Tells (values_in s) left right mask) states

-- the number is named open
abbrev pub is_named : List Opened → ℕ → Bool
is_named opens number = list_any (λ (o : Opened). o.number == number) opens
