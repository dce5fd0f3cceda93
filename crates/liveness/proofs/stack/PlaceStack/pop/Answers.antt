use Rattle.std.proofs.Common.{ap, refl, false, arith}
use Rattle.std.specs.Vec.{with_item}
use Rattle.liveness.specs.Stack.{Stack}
use Rattle.liveness.proofs.Stacks.{last_within, taken, never_more}
use Rattle.liveness.proofs.stack.PlaceStack.pop.Goals as goal

pub index_mut-requires : goal.index_mut-requires
index_mut-requires c = omega (arith, last_within c.self.inside c.pop.new.self.items c.in_ok-place.place c.self.invariant c.in_ok-place.ensures.items, c.self.inside.marks.ok.0)

pub invariant_of-self-2 : goal.invariant_of-self-2
invariant_of-self-2 c = taken c.self.inside _ c.in_ok-place.place c.self.invariant c.in_ok-place.ensures.items refl c.in_ok-place.ensures.capacity

pub returns-clause-within : goal.returns-clause-within
returns-clause-within c = omega (arith, last_within c.self.inside c.pop.new.self.items c.in_ok-place.place c.self.invariant c.in_ok-place.ensures.items, ap (λ (s : Stack). s.room) c.self.view_is)

pub returns-clause-few : goal.returns-clause-few
returns-clause-few c = never_more _ (taken c.self.inside (record { places = c.pop.new.self; marks = with_item c.self.inside.marks c.in_ok-place.place false }) c.in_ok-place.place c.self.invariant c.in_ok-place.ensures.items refl c.in_ok-place.ensures.capacity)
