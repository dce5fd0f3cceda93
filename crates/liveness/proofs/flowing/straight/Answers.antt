use Rattle.liveness.proofs.FlowLaws.{straight_flow}
use Rattle.liveness.proofs.flowing.straight.Goals as goal

pub returns : goal.returns
returns c = straight_flow c.args.instr.now c.shape-shape.result.uses c.shape-shape.result.writes c.requires c.shape-shape.ensures.uses c.shape-shape.ensures.writes
