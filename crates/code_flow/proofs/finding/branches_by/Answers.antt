use Rattle.std.proofs.Common.{[], ◌∷◌, refl}
use Rattle.thumb_model.specs.States.{registers_left}
use Rattle.code_flow.proofs.Lists.{united}
use Rattle.code_flow.proofs.finding.branches_by.Goals as goal

pub returns : goal.returns
returns c = λ p aim. (
  record { uses = c.of-word.ensures; writes = c.none.ensures; leads = refl },
  (
    record {
      uses = λ x. united _ _ _ x (c.args.source.number ∷ []) registers_left (c.union.ensures x) (c.of-word.ensures x) (c.left.ensures x);
      writes = c.none-2.ensures;
      leads = refl;
    },
    tt,
  ),
)
