use Rattle.lrat_check.proofs.Accepted.{outcome_sound}
use Rattle.lrat_check.proofs.checker.Checker.add.Goals as goal

pub returns-clause-sound : goal.returns-clause-sound
returns-clause-sound g c = λ v h. outcome_sound _ v _ _ _ c.accept.ensures.ok c.accept.ensures.unchanged h
