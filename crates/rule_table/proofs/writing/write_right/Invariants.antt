use Rattle.std.proofs.Common.{◌≡◌, ◌++◌, take, map}
use Rattle.rule_table.specs.Text.{text_of_items}
use Rattle.rule_table.specs.Text as item
use Rattle.rule_table.proofs.writing.write_right.Given as goal

abbrev pub invariant-loop-instr : goal.invariant-loop-instr
invariant-loop-instr l = l.out.items ≡ l.initial.out.items ++ text_of_items (map item.Right (take l.instr-index l.instrs))
