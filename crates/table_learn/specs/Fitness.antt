-- The invariant of a learnt entry while states are still being found and open numbers dropped.
use Rattle.std.specs.Prelude.{ℕ, ◌≡◌, ◌⊎◌, Bool, true, false, not, List, All, Option, Some, None, filter, slice_get}
use Rattle.thumb_instr.specs.declared.instr.Instr.{Instr}
use Rattle.seq_enum.specs.Alphabet.{ascends_from, IsOver}
use Rattle.window_exec.specs.State.{Seen}
use Rattle.lrat_check.specs.Text.{IsLine}
use Rattle.bit_blast.specs.Exactness.{IsMask}
use Rattle.rule_table.specs.Table.{Opened, Rule, numbers_of}
use Rattle.table_audit.specs.Shorter.{alphabet_registers, formula_against, IsBelow, below_at, is_named}
use Rattle.table_learn.specs.Learnt.{Settings, learnt_from, KeepsOrLowers, IsProvedBySolver, IsSpentSearch}
use Rattle.table_learn.specs.Given.{IsWindow}
use Rattle.table_learn.specs.Tellings.{told}

-- an open number belongs to a sequence below the right side that none of these states distinguishes, and its log is the solver's
pub record IsFitName (s : Settings) (silent : List Seen) (e : Rule) (o : Opened) : Type 0 where
  pub seq : List Instr
  pub below : IsBelow s e.left e.right o.number seq
  pub untold : told silent e.left seq e.mask ≡ false
  pub log : IsSpentSearch s.budget (formula_against s e seq) o.log
  pub lines : All IsLine o.log

-- an entry that passes the audit: the states `tellers` distinguish each sequence that it doesn't leave open, and the states `silent` none that it leaves open
pub record IsFit (s : Settings) (tellers silent : List Seen) (e : Rule) : Type 0 where
  pub window : IsWindow s (learnt_from e)
  pub mask : IsMask e.mask
  pub right : IsOver (alphabet_registers s e.left) s.pool e.right
  pub keeps : KeepsOrLowers s e
  pub proved : IsProvedBySolver s e
  pub lines : All IsLine e.proof
  pub settles : (q : ℕ) (seq : List Instr) → IsBelow s e.left e.right q seq → (is_named e.opens q ≡ true) ⊎ (told tellers e.left seq e.mask ≡ true)
  pub names : (i : ℕ) (o : Opened) → slice_get e.opens i ≡ Some o → IsFitName s silent e o
  pub ascending : ascends_from 0 (numbers_of e.opens) ≡ true

-- ---- dropping open numbers ----

-- whether there is a sequence and one of the states distinguishes it
abbrev pub tells_number : List Seen → Rule → Option (List Instr) → Bool
tells_number found e None = false
tells_number found e (Some seq) = told found e.left seq e.mask

abbrev pub stays_open : Settings → List Seen → Rule → Opened → Bool
stays_open s found e o = not (tells_number found e (below_at s e.left e.right o.number))

-- the entry without the open numbers whose sequences a found state distinguishes
abbrev pub without_told : Settings → List Seen → Rule → Rule
without_told s found e = record { left = e.left; right = e.right; mask = e.mask; proof = e.proof; opens = filter (stays_open s found e) e.opens }
