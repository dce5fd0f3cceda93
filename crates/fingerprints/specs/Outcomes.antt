-- What a table of outcomes covers, how it grows, and which of its sequences agree with a state.
use Rattle.std.specs.Prelude.{ℕ, ◌≡◌, ◌<◌, ◌≤◌, ◌+◌, ◌-◌, ◌↔◌, true, List, Some, Contains, length, max, slice_get}
use Rattle.std.specs.List.{flat_map}
use Rattle.thumb_instr.specs.declared.instr.Instr.{Instr}
use Rattle.thumb_model.specs.Effect.{Values, after_all, AreOver}
use Rattle.window_exec.specs.declared.state.WState.{WState}
use Rattle.window_exec.specs.State.{values_of, Differ}
use Rattle.seq_enum.specs.Alphabet.{numbers_from, ascends_from, words}
use Rattle.fingerprints.specs.declared.outcome_columns.Columns.{Columns}
use Rattle.fingerprints.specs.OutcomeColumns.{Holds}

-- the sequences of fewer than n instructions, by number
unfoldable pub sequences_below : List Instr → ℕ → List (List Instr)
sequences_below alphabet n = flat_map (words alphabet) (numbers_from 0 n)

-- the extent of a table: the outcomes of `start` under the sequences of at most `longest` instructions, which name only the first registers
pub record Extent : Type 0 where
  pub registers : ℕ
  pub alphabet : List Instr
  pub start : WState
  pub longest : ℕ

abbrev pub sequences_in : Extent → List (List Instr)
sequences_in e = sequences_below e.alphabet (e.longest + 1)

-- the same with sequences up to `longest`, where it has none so long yet
abbrev pub grown_to : ℕ → Extent → Extent
grown_to longest e = record { registers = e.registers; alphabet = e.alphabet; start = e.start; longest = max e.longest longest }

-- how many sequences are added then
abbrev pub added : ℕ → Extent → ℕ
added longest e = length (sequences_in (grown_to longest e)) - length (sequences_in e)

-- after the sequence of a number each item of the mask is as in `end`
pub record Agrees (e : Extent) (end : Values) (mask number : ℕ) : Type 0 where
  pub seq : List Instr
  pub at : slice_get (sequences_in e) number ≡ Some seq
  pub same : Differ (after_all seq (values_of e.start)) end mask → ⊥

-- the numbers below a limit, in ascending order, of just the sequences that agree
pub record AreAgreeing (e : Extent) (end : Values) (mask limit : ℕ) (numbers : List ℕ) : Type 0 where
  pub ascending : ascends_from 0 numbers ≡ true
  pub agreeing : (number : ℕ) → Contains numbers number ↔ (number < limit) × Agrees e end mask number

-- ---- the fields of a table ----

-- `first` of its sequences are shorter than the longest
pub record IsTable (k : ℕ) (alphabet : List Instr) (start : WState) (longest first : ℕ) (columns : Columns) : Type 0 where
  pub some : 0 < k
  pub few : k ≤ 4
  pub some_instrs : 0 < length alphabet
  pub few_instrs : length alphabet ≤ 1952
  pub over : AreOver k alphabet
  pub short : longest ≤ 4
  pub before : first ≡ length (sequences_below alphabet longest)
  pub holds : Holds k start (sequences_below alphabet (longest + 1)) columns
