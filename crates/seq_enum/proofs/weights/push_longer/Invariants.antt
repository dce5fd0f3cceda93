use Rattle.std.proofs.Common.{◌≡◌, ◌+◌, ◌-◌, ◌++◌, map, take, drop}
use Rattle.std.specs.List.{flat_map}
use Rattle.seq_enum.proofs.weights.push_longer.Given as goal

abbrev pub invariant-loop-place : goal.invariant-loop-place
invariant-loop-place l = l.weights.items ≡ l.fn.weights.items ++ flat_map (λ weight. map (λ cost. weight + cost) l.costs) (take (l.place - l.first) (drop l.first l.fn.weights.items))
