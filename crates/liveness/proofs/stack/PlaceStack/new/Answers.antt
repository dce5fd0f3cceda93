use Rattle.std.proofs.Common.{arith}
use Rattle.liveness.proofs.Stacks.{none_stacked}
use Rattle.liveness.proofs.stack.PlaceStack.new.Goals as goal

pub invariant_of-result : goal.invariant_of-result
invariant_of-result c = none_stacked _ c.args.room c.in_ok-with_capacity.ensures.items (c.in_ok-vec.ensures.items_if_clones_equal (λ y e. e)) (omega (arith, c.in_ok-vec.ensures.len, c.in_ok-with_capacity.ensures.capacity))
