use Rattle.std.proofs.Common.{refl}
use Rattle.thumb_model.specs.States.{registers_left}
use Rattle.code_flow.proofs.Lists.{united}
use Rattle.code_flow.proofs.finding.jump.Goals as goal

pub returns-in-None : goal.returns-in-None
returns-in-None c = λ p list h. rw c.in-None.is record {
  uses = λ x. united _ _ _ x list registers_left (c.union.ensures x) (h x) (c.left.ensures x);
  writes = c.none-in-None.ensures;
  leads = refl;
}
