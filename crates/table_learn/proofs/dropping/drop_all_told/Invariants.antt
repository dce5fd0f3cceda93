use Rattle.std.proofs.Common.{◌≡◌, ◌≤◌, ◌+◌, length, map}
use Rattle.std.specs.Prelude.{All}
use Rattle.table_learn.specs.Given.{settings_of}
use Rattle.table_learn.specs.Dropping.{IsSided, runs_on}
use Rattle.window_exec.specs.State.{seen}
use Rattle.rule_table.specs.Views.{rule_of}
use Rattle.table_learn.specs.Fitness.{without_told}
use Rattle.table_learn.specs.Lengths.{rules_length}
use Rattle.table_learn.proofs.dropping.drop_all_told.Given as goal

abbrev pub invariant-loop-entry : goal.invariant-loop-entry
invariant-loop-entry g l = record {
  sided : All IsSided (map rule_of l.entry-iterator.rest.items);
  kept : map rule_of l.kept.items ≡ map (without_told (settings_of l.settings) (map seen l.found)) (map rule_of l.yielded);
  freed : rules_length (map rule_of l.kept.items) + l.freed ≡ rules_length (map rule_of l.yielded);
  cost : l.steps ≤ l.initial.steps + runs_on (length l.found) (map rule_of l.yielded);
}
