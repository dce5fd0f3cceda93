-- The tables of outcomes that are kept from window to window.
use Rattle.std.specs.Prelude.{ℕ, ◌≡◌, List, Some, slice_get}
use Rattle.window_exec.specs.declared.state.WState.{WState}
use Rattle.window_exec.specs.State.{seen, Seen}
use Rattle.fingerprints.specs.declared.tables.Tables.{Tables}
use Rattle.fingerprints.specs.Outcomes.{Extent}
use Rattle.fingerprints.specs.Tables.{AreTables, IsFor}

-- the tables are those of the pool and the first of the states
abbrev pub AreKept : List ℕ → List Seen → Tables → Type 0
AreKept pool states tables = (start : WState) → slice_get states 0 ≡ Some (seen start) → AreTables pool start tables

-- the table of the first k registers is that of the pool and the first of the states
abbrev pub IsOfFirst : ℕ → List ℕ → List Seen → Extent → Type 0
IsOfFirst k pool states e = (start : WState) → slice_get states 0 ≡ Some (seen start) → IsFor k pool start e
