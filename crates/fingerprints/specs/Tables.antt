-- The invariant of the cache of tables.
use Rattle.std.specs.Prelude.{ℕ, ◌≡◌, List, IfSome}
use Rattle.window_exec.specs.declared.state.WState.{WState}
use Rattle.seq_enum.specs.Alphabet.{alphabet}
use Rattle.fingerprints.specs.declared.tables.Tables.{Tables}
use Rattle.fingerprints.specs.Outcomes.{Extent}

-- a table of the first k registers and these numbers, from this state
pub record IsFor (k : ℕ) (pool : List ℕ) (start : WState) (e : Extent) : Type 0 where
  pub registers : e.registers ≡ k
  pub alphabet : e.alphabet ≡ alphabet k pool
  pub state : e.start ≡ start

-- each table is for its number of registers
pub record AreTables (pool : List ℕ) (start : WState) (t : Tables) : Type 0 where
  pub one : IfSome t.one (IsFor 1 pool start)
  pub two : IfSome t.two (IsFor 2 pool start)
  pub three : IfSome t.three (IsFor 3 pool start)
  pub four : IfSome t.four (IsFor 4 pool start)
