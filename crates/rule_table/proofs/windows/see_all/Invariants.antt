use Rattle.std.proofs.Common.{◌≡◌, ◌≤◌, drop, length}
use Rattle.rule_table.specs.Canonical.{firsts, numbers_of}
use Rattle.rule_table.proofs.windows.see_all.Given as goal

abbrev pub invariant-loop-register : goal.invariant-loop-register
invariant-loop-register l = record {
  left : firsts (numbers_of l.seen.items) (numbers_of (drop l.register-index l.registers)) ≡ firsts (numbers_of l.initial.seen.items) (numbers_of l.registers);
  few : length l.seen.items ≤ 4;
}
