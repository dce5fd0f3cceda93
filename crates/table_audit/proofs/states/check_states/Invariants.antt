use Rattle.std.proofs.Common.{drop, map}
use Rattle.window_exec.specs.State.{seen}
use Rattle.rule_table.specs.Views.{table_of}
use Rattle.lrat_check.proofs.Turns.{Rest}
use Rattle.table_audit.specs.Acceptance.{StatesVerdict, StateTest}
use Rattle.table_audit.proofs.states.check_states.Given as goal

abbrev pub invariant-loop-place : goal.invariant-loop-place
invariant-loop-place l = Rest (StateTest (table_of l.table)) l.place (drop l.place (map seen l.state-items)) (StatesVerdict (table_of l.table))
