use Rattle.std.proofs.Common.{◌≡◌, ◌++◌, take, map}
use Rattle.std.specs.List.{flat_map}
use Rattle.rule_table.specs.Views.{opened_of}
use Rattle.rule_table.specs.Text.{text_of_items, open_items}
use Rattle.rule_table.proofs.writing.write_opens.Given as goal

abbrev pub invariant-loop-open : goal.invariant-loop-open
invariant-loop-open l = l.out.items ≡ l.initial.out.items ++ text_of_items (flat_map open_items (map opened_of (take l.open-index l.opens)))
