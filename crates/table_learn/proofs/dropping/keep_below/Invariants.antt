use Rattle.std.proofs.Common.{◌≡◌, filter, map}
use Rattle.rule_table.specs.Views.{opened_of}
use Rattle.table_learn.specs.Given.{settings_of}
use Rattle.table_learn.specs.Searching.{is_below}
use Rattle.table_learn.proofs.dropping.keep_below.Given as goal

abbrev pub invariant-loop-name : goal.invariant-loop-name
invariant-loop-name l = map opened_of l.kept.items ≡ filter (is_below (settings_of l.settings) l.window.left l.right) (map opened_of l.yielded)
