use Rattle.lrat_check.proofs.Models.{outcome_holds}
use Rattle.lrat_check.proofs.checker.Checker.new.Goals as goal

pub returns-clause-sound : goal.returns-clause-sound
returns-clause-sound c = outcome_holds _ _ c.begin.ensures
