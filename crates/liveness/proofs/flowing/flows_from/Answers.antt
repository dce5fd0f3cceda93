use Rattle.std.proofs.Common.{arith}
use Rattle.thumb_model.specs.Listing.{code_of}
use Rattle.liveness.proofs.FlowLaws.{push_flow}
use Rattle.liveness.proofs.flowing.flows_from.Goals as goal

pub loop-at-preserved : goal.loop-at-preserved
loop-at-preserved c = record {
  len = omega (arith, c.push.ensures.len, c.loop-at.invariant.len);
  flows = push_flow (code_of c.args.listing.now) c.args.place c.loop-at.flows.items c.push.new.self.items c.flow_at.result c.loop-at.at c.loop-at.invariant.flows c.loop-at.invariant.len c.push.ensures.items c.flow_at.ensures;
}

pub returns-then-is_full : goal.returns-then-is_full
returns-then-is_full c = c.loop-at.invariant.flows
