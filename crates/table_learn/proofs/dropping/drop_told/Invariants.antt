use Rattle.std.proofs.Common.{◌≡◌, ◌≤◌, ◌+◌, ◌*◌, filter, length, map}
use Rattle.window_exec.specs.State.{seen}
use Rattle.rule_table.specs.Views.{opened_of, rule_of}
use Rattle.table_learn.specs.Given.{settings_of}
use Rattle.table_learn.specs.Fitness.{stays_open}
use Rattle.table_learn.specs.Lengths.{opens_length}
use Rattle.table_learn.proofs.dropping.drop_told.Given as goal

abbrev pub invariant-loop-name : goal.invariant-loop-name
invariant-loop-name g l = record {
  kept : map opened_of l.kept.items ≡ filter (stays_open (settings_of l.settings) (map seen l.found) (rule_of l.fn.entry)) (map opened_of l.yielded);
  freed : opens_length (map opened_of l.kept.items) + l.freed ≡ opens_length (map opened_of l.yielded);
  cost : l.steps ≤ l.initial.steps + length l.yielded * (length l.found * (length l.window.left + length l.window.left));
}
