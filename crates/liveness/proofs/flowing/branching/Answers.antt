use Rattle.std.proofs.Common.{◌∙◌, Some}
use Rattle.thumb_model.specs.Flow.{ways_of}
use Rattle.code_flow.specs.Flow.{way_list}
use Rattle.liveness.proofs.FlowLaws.{uses_are}
use Rattle.liveness.proofs.flowing.branching.Goals as goal

pub returns : goal.returns
returns c = record {
  reads = λ x. c.reads_of.ensures x ∙ uses_are c.args.place (ways_of c.args.target c.args.instr.now) (way_list (Some c.ways_of.result)) x c.ways_of.ensures;
  onward = c.onward.ensures;
}
