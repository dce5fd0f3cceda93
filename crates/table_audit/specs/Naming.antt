-- Numbers that are named open, the state that the tables of outcomes are for, and what running an open sequence costs.
use Rattle.std.specs.Prelude.{ℕ, ◌*◌, ◌==◌, Bool, false, List, [], ◌∷◌, Option, Some, None, length}
use Rattle.thumb_instr.specs.declared.instr.Instr.{Instr}
use Rattle.window_exec.specs.declared.state.WState.{WState}
use Rattle.rule_table.specs.Table.{Opened, Rule, Table}
use Rattle.table_audit.specs.Shorter.{below_at}

abbrev pub is_number : Option Opened → ℕ → Bool
is_number None number = false
is_number (Some o) number = o.number == number

-- the first of some states, or one of zeros
abbrev pub first_of : List WState → WState
first_of [] = record { r = 0 ∷ 0 ∷ 0 ∷ 0 ∷ []; nzcv = 0 }
first_of (s ∷ ss) = s

-- the instructions run for a number: its sequence's on each state, where that is below the right side
abbrev pub run_share : Table → Rule → Option (List Instr) → ℕ
run_share t e None = 0
run_share t e (Some seq) = length t.states * length e.left

abbrev pub told_cost : Table → Rule → ℕ → ℕ
told_cost t e number = run_share t e (below_at t.header e.left e.right number)
