use Rattle.std.proofs.Common.{take}
use Rattle.clause_model.specs.Standings.{StandsAs}
use Rattle.step_ledger.specs.Counts.{RisesBy}
use Rattle.lrat_check.proofs.propagation.counted_standing_of.Given as goal

abbrev pub invariant-loop-literal : goal.invariant-loop-literal
invariant-loop-literal g l = StandsAs l.assignment (take l.literal-index l.clause) l.standing × RisesBy l.initial.steps l.steps l.literal-index
