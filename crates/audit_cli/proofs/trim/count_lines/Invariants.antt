use Rattle.std.proofs.Common.{◌≡◌, ◌+◌, length, map, drop}
use Rattle.std.specs.Prelude.{sum_by}
use Rattle.rule_table.specs.Table.{Rule}
use Rattle.rule_table.specs.Views.{rule_of}
use Rattle.audit_cli.proofs.trim.count_lines.Given as goal

abbrev pub invariant-loop-entry : goal.invariant-loop-entry
invariant-loop-entry l = l.count + sum_by (λ (e : Rule). length e.proof) (map rule_of (drop l.entry-index l.entries)) ≡ sum_by (λ (e : Rule). length e.proof) (map rule_of l.entries)
