-- Runs of instructions that may stand in a window.
use Rattle.std.specs.Prelude.{ℕ, zero, suc, ◌||◌, Bool, false, List, [], ◌∷◌, Option, Some, None, if◌then◌else◌}
use Rattle.thumb_instr.specs.declared.instr.Instr.{Instr}
use Rattle.window_runs.specs.declared.rows.WindowPlace.{WindowPlace}

-- the instruction of the first row, where a run begins there or it is joined to the row before
abbrev pub instr_at : Bool → List WindowPlace → Option Instr
instr_at begins [] = None
instr_at begins (r ∷ rs) = if begins || r.is_joined then r.instr else None

abbrev pub before : Option Instr → List Instr → List Instr
before None is = []
before (Some i) is = i ∷ is

-- the instructions of rows, each joined to the one before, up to the first row that has none, and at most n
abbrev pub run : Bool → ℕ → List WindowPlace → List Instr
run begins zero rows = []
run begins (suc n) [] = []
run begins (suc n) (r ∷ rs) = before (instr_at begins (r ∷ rs)) (run false n rs)
