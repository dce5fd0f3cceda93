-- What trying a candidate changes, and what it returns.
use Rattle.std.specs.Global.{Global}
use Rattle.std.specs.Prelude.{ℕ, ◌≡◌, ◌∷◌, ◌++◌, List, [], All, Option, Some, None, Vec, map}
use Rattle.thumb_instr.specs.declared.instr.Instr.{Instr}
use Rattle.window_exec.specs.State.{Seen}
use Rattle.lrat_check.specs.declared.line.Line.{Line}
use Rattle.lrat_check.specs.Text.{content_of, IsLine}
use Rattle.rule_table.specs.Table.{Opened}
use Rattle.table_audit.specs.Shorter.{IsBelow}
use Rattle.table_learn.specs.Learnt.{Settings, Window, IsRefutation}
use Rattle.table_learn.specs.Searching.{formula_for, IsSearching}

-- the right side is the sequence with this number, and the solver's proof shows that no state distinguishes it from the window
pub record IsRightSide (s : Settings) (w : Window) (number : ℕ) (right : List Instr × Vec Line Global) : Type 0 where
  pub below : IsBelow s w.seq w.seq number right.0
  pub proof : IsRefutation s.budget (formula_for s w right.0) (map content_of right.1.items)
  pub lines : All IsLine (map content_of right.1.items)

-- the candidate is the right side and nothing changed, or the search has passed it
abbrev pub Tried : Settings → Window → List Seen → List Opened → List Seen → List Opened → ℕ → Option (List Instr × Vec Line Global) → Type 0
Tried s w states opens later more number None =
    (old : List Seen) (passed rest : List ℕ) → IsSearching s w old states opens passed (number ∷ rest) → IsSearching s w old later more (passed ++ number ∷ []) rest
Tried s w states opens later more number (Some right) = (later ≡ states) × (more ≡ opens) × IsRightSide s w number right
