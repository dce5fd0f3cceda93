use Rattle.std.proofs.Common.{◌≡◌, ◌+◌, length, map, drop}
use Rattle.std.specs.Prelude.{sum_by}
use Rattle.rule_table.specs.Table.{Family}
use Rattle.rule_table.specs.Views.{family_of}
use Rattle.audit_cli.proofs.trim.count_raised.Given as goal

abbrev pub invariant-loop-family : goal.invariant-loop-family
invariant-loop-family l = l.count + sum_by (λ (f : Family). length f.proof) (map family_of (drop l.family-index l.families)) ≡ sum_by (λ (f : Family). length f.proof) (map family_of l.families)
