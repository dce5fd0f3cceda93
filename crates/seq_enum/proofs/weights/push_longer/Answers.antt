use Rattle.std.proofs.Common.{◌+◌, map, arith}
use Rattle.seq_enum.proofs.Weighing.{next_place}
use Rattle.seq_enum.proofs.weights.push_longer.Goals as goal

pub loop-place-preserved : goal.loop-place-preserved
loop-place-preserved c =
    next_place (λ weight. map (λ cost. weight + cost) c.args.costs.now) c.args.weights.now.items c.loop-place.weights.items c.push_extended.new.weights.items c.args.first c.loop-place.place c.index-weight.result.now
    c.loop-place.auto.place (omega arith) c.loop-place.invariant c.index-weight.ensures c.in_ok-push_extended.ensures
