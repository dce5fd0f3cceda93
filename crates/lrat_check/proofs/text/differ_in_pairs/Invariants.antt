use Rattle.std.proofs.Common.{take}
use Rattle.clause_model.specs.Clauses.{HasDistinctVariables}
use Rattle.lrat_check.proofs.text.differ_in_pairs.Given as goal

abbrev pub invariant-loop-place : goal.invariant-loop-place
invariant-loop-place l = HasDistinctVariables (take l.place l.literals)
