use Rattle.std.proofs.Common.{◌≡◌, ◌++◌, take, map}
use Rattle.lrat_check.specs.Text.{content_of}
use Rattle.rule_table.specs.Text.{text_of_items}
use Rattle.rule_table.specs.Text as item
use Rattle.rule_table.proofs.writing.write_log.Given as goal

abbrev pub invariant-loop-line : goal.invariant-loop-line
invariant-loop-line l = l.out.items ≡ l.initial.out.items ++ text_of_items (map item.Logged (map content_of (take l.line-index l.lines)))
