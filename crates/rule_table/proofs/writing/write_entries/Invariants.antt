use Rattle.std.proofs.Common.{◌≡◌, ◌++◌, take, map}
use Rattle.std.specs.List.{flat_map}
use Rattle.rule_table.specs.Views.{rule_of}
use Rattle.rule_table.specs.Text.{text_of_items, rule_items}
use Rattle.rule_table.proofs.writing.write_entries.Given as goal

abbrev pub invariant-loop-entry : goal.invariant-loop-entry
invariant-loop-entry l = l.out.items ≡ l.initial.out.items ++ text_of_items (flat_map rule_items (map rule_of (take l.entry-index l.entries)))
