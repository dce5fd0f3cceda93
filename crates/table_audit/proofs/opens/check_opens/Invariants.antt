use Rattle.std.proofs.Common.{◌≤◌, ◌+◌, drop, map, take, sum_by}
use Rattle.rule_table.specs.Table.{Opened}
use Rattle.rule_table.specs.Views.{opened_of, rule_of, table_of}
use Rattle.lrat_check.proofs.Turns.{Rest}
use Rattle.table_audit.specs.Acceptance.{OpenTest, OpensVerdict}
use Rattle.table_audit.specs.Costs.{open_cost}
use Rattle.table_audit.specs.Naming.{told_cost}
use Rattle.table_audit.proofs.opens.check_opens.Given as goal

abbrev pub invariant-loop-open : goal.invariant-loop-open
invariant-loop-open g l = record {
  rest : Rest (OpenTest (table_of l.table) l.number (rule_of l.entry)) l.open-index (drop l.open-index (map opened_of l.entry.opens.items)) (OpensVerdict (table_of l.table) l.number (rule_of l.entry));
  cost : l.steps ≤ l.initial.steps
      + sum_by (λ (o : Opened). told_cost (table_of l.table) (rule_of l.entry) o.number + open_cost (table_of l.table) (rule_of l.entry) o) (take l.open-index (map opened_of l.entry.opens.items));
}
