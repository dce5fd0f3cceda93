use Rattle.std.proofs.Common.{◌≡◌, ◌++◌, take}
use Rattle.std.specs.List.{flat_map}
use Rattle.rule_table.specs.Text.{text_of_items, line_items}
use Rattle.rule_table.specs.Views.{header_in}
use Rattle.rule_table.proofs.writing.write_header.Given as goal

abbrev pub invariant-loop-line : goal.invariant-loop-line
invariant-loop-line l = l.out.items ≡ l.initial.out.items ++ text_of_items (flat_map (line_items (header_in l.table)) (take l.line-index l.line-items))
