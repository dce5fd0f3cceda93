use Rattle.std.proofs.Common.{◌≤◌, ◌+◌, sum_by, take}
use Rattle.rule_table.specs.Views.{rule_of, table_of}
use Rattle.table_audit.specs.Naming.{told_cost}
use Rattle.table_audit.proofs.Settling.{SettledBefore}
use Rattle.table_audit.proofs.told.first_untold.Given as goal

-- the first untold number so far is known, and the weight that a better one must stay below
abbrev pub invariant-loop-number : goal.invariant-loop-number
invariant-loop-number g l = record {
  settled : SettledBefore (table_of l.table) (rule_of l.entry) l.numbers l.number-index l.first l.limit;
  cost : l.steps ≤ l.initial.steps + sum_by (told_cost (table_of l.table) (rule_of l.entry)) (take l.number-index l.numbers);
}
