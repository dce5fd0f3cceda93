use Rattle.std.proofs.Common.{◌≡◌, ◌≤◌, ◌*◌, drop}
use Rattle.std.specs.List.{flat_map}
use Rattle.thumb_instr.specs.Window.{named}
use Rattle.seq_enum.specs.Alphabet.{numbers_from}
use Rattle.rule_table.specs.Canonical.{firsts, appearing}
use Rattle.table_audit.proofs.sides.ordered_names.Given as goal

-- continuing with the remaining instructions yields the same list
abbrev pub invariant-loop-instr : goal.invariant-loop-instr
invariant-loop-instr l = record {
  same : firsts (numbers_from 0 l.count) (flat_map named (drop l.instr-index l.instrs)) ≡ appearing l.instrs;
  few : l.count ≤ 3 * l.instr-index;
}
