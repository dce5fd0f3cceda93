use Rattle.std.proofs.Common.{refl}
use Rattle.thumb_instr.specs.Shape.{registers_in}
use Rattle.code_flow.proofs.Lists.{left_over}
use Rattle.thumb_instr.proofs.Listed.{eighth_set}
use Rattle.code_flow.proofs.finding.returns_by.Goals as goal

pub returns : goal.returns
returns c = λ p aim. rw (eighth_set c.args.list.number c.requires c.args.list.below) (
  record { uses = c.of-stack.ensures; writes = c.shape.ensures.writes; leads = refl },
  (
    record {
      uses = λ x.
          left_over c.of-stack.result.bits c.left.result.bits c.minus.result.bits c.shape.result.writes.bits c.union.result.bits x (registers_in c.args.list.number)
          (c.of-stack.ensures x) (c.left.ensures x) (c.shape.ensures.writes x) (c.minus.ensures x) (c.union.ensures x);
      writes = c.shape.ensures.writes;
      leads = refl;
    },
    tt,
  ),
)
