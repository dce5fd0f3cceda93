use Rattle.std.proofs.Common.{◌≡◌, drop}
use Rattle.rule_table.specs.Canonical.{has, numbers_of}
use Rattle.rule_table.proofs.windows.has.Given as goal

abbrev pub invariant-loop-other : goal.invariant-loop-other
invariant-loop-other l = has (numbers_of (drop l.other-index l.seen)) l.register.number ≡ has (numbers_of l.seen) l.register.number
