use Rattle.std.proofs.Common.{take, map}
use Rattle.clause_model.specs.Clauses.{HasDistinctVariables, variable_of}
use Rattle.lrat_check.proofs.Deletions.{HasSeen}
use Rattle.lrat_check.proofs.text.differ_in_set.Given as goal

abbrev pub invariant-loop-literal : goal.invariant-loop-literal
invariant-loop-literal l = HasSeen l.seen (take l.literal-index (map variable_of l.literals)) × HasDistinctVariables (take l.literal-index l.literals)
