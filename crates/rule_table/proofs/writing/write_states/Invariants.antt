use Rattle.std.proofs.Common.{◌≡◌, ◌++◌, take, map}
use Rattle.window_exec.specs.State.{seen}
use Rattle.rule_table.specs.Text.{text_of_items}
use Rattle.rule_table.specs.Text as item
use Rattle.rule_table.proofs.writing.write_states.Given as goal

abbrev pub invariant-loop-state : goal.invariant-loop-state
invariant-loop-state l = l.out.items ≡ l.initial.out.items ++ text_of_items (map item.State (map seen (take l.state-index l.states)))
