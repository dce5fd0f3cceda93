use Rattle.std.proofs.Common.{◌≡◌, ◌++◌, take, map}
use Rattle.std.specs.List.{flat_map}
use Rattle.rule_table.specs.Views.{family_of}
use Rattle.rule_table.specs.Text.{text_of_items, family_items}
use Rattle.rule_table.proofs.writing.write_families.Given as goal

abbrev pub invariant-loop-family : goal.invariant-loop-family
invariant-loop-family l = l.out.items ≡ l.initial.out.items ++ text_of_items (flat_map family_items (map family_of (take l.family-index l.families)))
