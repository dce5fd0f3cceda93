use Rattle.std.proofs.Common.{◌≡◌, ◌+◌, ◌++◌, map, take}
use Rattle.seq_enum.proofs.weights.push_extended.Given as goal

abbrev pub invariant-loop-cost : goal.invariant-loop-cost
invariant-loop-cost l = l.weights.items ≡ l.fn.weights.items ++ map (λ cost. l.weight + cost) (take l.cost-index l.costs)
