use Rattle.std.proofs.Common.{◌≤◌, ◌+◌, drop, map, take, sum_by}
use Rattle.rule_table.specs.Views.{rule_of, table_of}
use Rattle.lrat_check.proofs.Turns.{Rest}
use Rattle.fingerprints.specs.Tables.{AreTables}
use Rattle.table_audit.specs.Naming.{first_of}
use Rattle.table_audit.specs.Acceptance.{EntryVerdict, EntriesVerdict}
use Rattle.table_audit.specs.Costs.{entry_cost}
use Rattle.table_audit.proofs.verdict.check_entries.Given as goal

abbrev pub invariant-loop-place : goal.invariant-loop-place
invariant-loop-place g l = record {
  kept : AreTables l.table.pool (first_of l.table.states) l.tables;
  rest : Rest (EntryVerdict (table_of l.table)) (l.place + 1) (drop l.place (map rule_of l.table.entries.items)) (EntriesVerdict (table_of l.table));
  cost : l.steps ≤ l.initial.steps + sum_by (entry_cost (table_of l.table)) (take l.place (map rule_of l.table.entries.items));
}
