use Rattle.std.proofs.Common.{◌≡◌, ◌+◌, ◌++◌, take, drop, map}
use Rattle.liveness.specs.declared.kept.NewSets.{NewSets}
use Rattle.liveness.proofs.changing.put.Given as goal

abbrev pub invariant-loop-at : goal.invariant-loop-at
invariant-loop-at l = record {
  before : l.before.items ≡ take l.place l.fn.before.items ++ (map (λ (n : NewSets). n.before) (take l.at l.new) ++ drop (l.place + l.at) l.fn.before.items);
  after : l.after.items ≡ take l.place l.fn.after.items ++ (map (λ (n : NewSets). n.after) (take l.at l.new) ++ drop (l.place + l.at) l.fn.after.items);
}
