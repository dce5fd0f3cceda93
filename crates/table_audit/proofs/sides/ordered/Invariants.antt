use Rattle.std.proofs.Common.{◌≡◌, ◌≤◌, ◌+◌, drop}
use Rattle.seq_enum.specs.Alphabet.{numbers_from}
use Rattle.rule_table.specs.Canonical.{firsts, numbers_of}
use Rattle.table_audit.proofs.sides.ordered.Given as goal

-- continuing with the remaining registers yields the same list
abbrev pub invariant-loop-register : goal.invariant-loop-register
invariant-loop-register l = record {
  same : firsts (numbers_from 0 l.seen) (numbers_of (drop l.register-index l.registers)) ≡ firsts (numbers_from 0 l.count) (numbers_of l.registers);
  few : l.seen ≤ l.count + l.register-index;
}
