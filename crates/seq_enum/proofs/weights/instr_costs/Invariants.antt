use Rattle.std.proofs.Common.{◌≡◌, ◌≤◌, map, take}
use Rattle.std.specs.List.{All}
use Rattle.seq_enum.specs.Costs.{cost_in}
use Rattle.seq_enum.proofs.weights.instr_costs.Given as goal

abbrev pub invariant-loop-instr : goal.invariant-loop-instr
invariant-loop-instr l = record {
  value : l.all.items ≡ map (cost_in l.costs) (take l.instr-index l.alphabet);
  small : All (λ cost. cost ≤ 64) l.all.items;
}
