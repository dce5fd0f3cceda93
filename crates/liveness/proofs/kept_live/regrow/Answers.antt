use Rattle.std.proofs.Common.{[], List, Option, subst, sym}
use Rattle.code_flow.specs.declared.way.Ways.{Ways}
use Rattle.liveness.specs.declared.counted.PointSets.{PointSets}
use Rattle.liveness.specs.Grows.{IsGrowing, IsGrownBy}
use Rattle.liveness.proofs.Shrinkings.{growing_with}
use Rattle.liveness.proofs.kept_live.regrow.Goals as goal

pub returns-clause-live : goal.returns-clause-live
returns-clause-live c = λ code graph growing.
    let k = c.args.kept.now in
    let walk = c.wait_again.new.walk in
    let waiting : IsGrowing code k.walk.before.sets.items walk.stack.places = growing_with code k.walk.before.sets.items k.walk.touched.places walk.stack.places c.wait_again.ensures.waits growing in
    let begun = subst (λ (b : PointSets). IsGrowing code b.sets.items walk.stack.places) (sym c.wait_again.ensures.before) waiting in
    let grown = subst (λ (ws : List (Option Ways)). IsGrownBy ws k.graph walk.before.sets.items walk.stack.places c.grow.new.before.sets.items []) c.as_slice.ensures.value c.grow.ensures.grown in
    subst (λ (b : PointSets). IsGrowing code b.sets.items []) (sym c.tell_lost.ensures.before) (grown code graph begun)
