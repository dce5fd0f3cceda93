use Rattle.std.proofs.Common.{◌≡◌, ◌≤◌, drop, length}
use Rattle.std.specs.List.{flat_map}
use Rattle.thumb_instr.specs.Window.{named}
use Rattle.rule_table.specs.Canonical.{firsts, numbers_of, appearing}
use Rattle.rule_table.proofs.windows.order_of.Given as goal

abbrev pub invariant-loop-instr : goal.invariant-loop-instr
invariant-loop-instr l = record {
  left : firsts (numbers_of l.seen.items) (flat_map named (drop l.instr-index l.instrs)) ≡ appearing l.instrs;
  few : length l.seen.items ≤ 4;
}
