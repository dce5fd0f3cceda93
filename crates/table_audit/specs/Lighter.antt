-- What the numbers to be tried must be: in ascending order, within the left side's length, and with each untold sequence among them.
use Rattle.std.specs.Prelude.{ℕ, ◌≡◌, ◌<◌, ◌≤◌, ◌↔◌, ◌&&◌, Bool, true, false, List, Option, Some, None, Contains, length, nat_lt, slice_get, ◌-◌}
use Rattle.thumb_instr.specs.declared.instr.Instr.{Instr}
use Rattle.seq_enum.specs.Alphabet.{ascends_from, sequences}
use Rattle.seq_enum.specs.Costs.{cost_under}
use Rattle.rule_table.specs.Table.{Rule, Table}
use Rattle.table_audit.specs.Shorter.{alphabet_registers, is_lighter}
use Rattle.table_audit.specs.Acceptance.{IsUntold}

-- the numbers, in ascending order, are those of the sequences that weigh less than a limit
pub record AreLighter (costs : Option (List ℕ)) (limit : ℕ) (seqs : List (List Instr)) (numbers : List ℕ) : Type 0 where
  pub ascending : ascends_from 0 numbers ≡ true
  pub within : (q : ℕ) → Contains numbers q → q < length seqs
  pub each : (q : ℕ) (seq : List Instr) → slice_get seqs q ≡ Some seq → Contains numbers q ↔ (is_lighter costs limit seq ≡ true)

-- whether there is an instruction, and it costs less than a limit
abbrev pub is_light_instr : Option (List ℕ) → ℕ → Option Instr → Bool
is_light_instr costs limit None = false
is_light_instr costs limit (Some x) = nat_lt (cost_under costs x) limit

-- whether one of the instructions, whose first has this number, is lighter than a limit and has a number below a count
abbrev pub is_light_at : Option (List ℕ) → List Instr → (first limit count : ℕ) → ℕ → Bool
is_light_at costs alphabet first limit count q = nat_lt q count && is_light_instr costs limit (slice_get alphabet (q - first))

-- the number is that of a sequence of the entry's alphabet, no longer than the left side
pub record IsWithin (t : Table) (e : Rule) (number : ℕ) : Type 0 where
  pub seq : List Instr
  pub at : slice_get (sequences (alphabet_registers t.header e.left) t.header.pool) number ≡ Some seq
  pub no_longer : length seq ≤ length e.left

-- the numbers are in ascending order, each is within, and each number of an untold sequence is among them
pub record CoverUntold (t : Table) (e : Rule) (numbers : List ℕ) : Type 0 where
  pub ascending : ascends_from 0 numbers ≡ true
  pub within : (q : ℕ) → Contains numbers q → IsWithin t e q
  pub untold : (q : ℕ) (seq : List Instr) → IsUntold t e q seq → Contains numbers q
