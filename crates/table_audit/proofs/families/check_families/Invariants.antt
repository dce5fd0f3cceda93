use Rattle.std.proofs.Common.{◌≤◌, ◌+◌, drop, map, take, sum_by}
use Rattle.rule_table.specs.Views.{family_of, table_of}
use Rattle.lrat_check.proofs.Turns.{Rest}
use Rattle.table_audit.specs.Acceptance.{FamilyVerdict, FamiliesVerdict}
use Rattle.table_audit.specs.Costs.{family_cost}
use Rattle.table_audit.proofs.families.check_families.Given as goal

abbrev pub invariant-loop-place : goal.invariant-loop-place
invariant-loop-place g l = record {
  rest : Rest (FamilyVerdict (table_of l.table)) (l.place + 1) (drop l.place (map family_of l.table.families.items)) (FamiliesVerdict (table_of l.table));
  cost : l.steps ≤ l.initial.steps + sum_by (family_cost (table_of l.table)) (take l.place (map family_of l.table.families.items));
}
