use Rattle.std.proofs.Common.{◌≡◌, length, subst, arith}
use Rattle.liveness.specs.Graph.{AreCallers, AreReturns}
use Rattle.liveness.proofs.graph.graph_of.Goals as goal

pub returns : goal.returns
returns c =
    let all = c.args.ways.now in
    let count = c.place_count-count.ensures in
    let done : c.loop-place.place ≡ length all = omega (arith, c.loop-place-test.false, c.loop-place.auto.place-end, count, c.requires.len) in
    record {
      as_many = c.requires.len;
      ways = c.requires.ways;
      marks = omega (arith, c.in_ok-all_points.ensures.len, c.requires.len);
      points = c.in_ok-all_points.ensures.points;
      callers = subst (λ n. AreCallers all n c.loop-place.callers) done c.loop-place.invariant.callers;
      returns = subst (λ n. AreReturns all n c.loop-place.returns.items) done c.loop-place.invariant.returns;
    }
