use Rattle.std.proofs.Common.{[], ◌∷◌, refl}
use Rattle.thumb_model.specs.States.{handed}
use Rattle.code_flow.proofs.Lists.{united}
use Rattle.code_flow.proofs.finding.calls_by.Goals as goal

pub returns : goal.returns
returns c = λ aim. (
  record { uses = c.of-word.ensures; writes = c.of.ensures; leads = refl },
  (
    record {
      uses = λ x. united _ _ _ x (c.args.source.number ∷ []) handed (c.union.ensures x) (c.of-word.ensures x) (c.handed.ensures x);
      writes = c.answered.ensures;
      leads = refl;
    },
    tt,
  ),
)
