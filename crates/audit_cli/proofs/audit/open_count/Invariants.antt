use Rattle.std.proofs.Common.{◌≡◌, ◌+◌, map, drop}
use Rattle.std.specs.Prelude.{sum_by}
use Rattle.rule_table.specs.Views.{rule_of}
use Rattle.audit_cli.specs.Tables.{open_count}
use Rattle.audit_cli.proofs.audit.open_count.Given as goal

abbrev pub invariant-loop-entry : goal.invariant-loop-entry
invariant-loop-entry l = l.count + sum_by open_count (map rule_of (drop l.entry-index l.entries)) ≡ sum_by open_count (map rule_of l.entries)
