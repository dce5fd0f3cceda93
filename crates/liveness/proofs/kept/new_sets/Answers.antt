use Rattle.std.proofs.Common.{length, ap, arith}
use Rattle.liveness.proofs.Through.{push_through, no_through}
use Rattle.liveness.proofs.kept.new_sets.Goals as goal

pub loop-at-init : goal.loop-at-init
loop-at-init c = record { len = ap length c.new-sets.ensures; through = no_through c.args.instrs.now c.args.after c.new-sets.result.items c.new-sets.ensures }

pub loop-at-preserved : goal.loop-at-preserved
loop-at-preserved c = record {
  len = omega (arith, c.push.ensures.len, c.loop-at.invariant.len);
  through = push_through c.args.instrs.now c.args.after c.loop-at.sets.items c.push.new.self.items _ c.loop-at.at c.loop-at.invariant.through c.loop-at.invariant.len c.push.ensures.items c.set_from.ensures
      c.set_from-in-loop-at.ensures;
}
