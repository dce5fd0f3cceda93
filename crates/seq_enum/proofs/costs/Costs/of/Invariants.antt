use Rattle.std.proofs.Common.{◌≡◌, ◌*◌, ◌≤◌, take}
use Rattle.std.specs.List.{sum_by}
use Rattle.seq_enum.specs.Costs.{cost_in}
use Rattle.seq_enum.proofs.costs.Costs.of.Given as goal

abbrev pub invariant-loop-instr : goal.invariant-loop-instr
invariant-loop-instr l = record {
  cost : l.cost ≡ sum_by (cost_in l.self) (take l.instr-index l.seq);
  small : l.cost ≤ 64 * l.instr-index;
}
