use Rattle.std.proofs.Common.{take}
use Rattle.clause_model.specs.Clauses.{codes_of}
use Rattle.lrat_check.specs.Lists.{Holds}
use Rattle.lrat_check.proofs.kept_clauses.KeptClauses.of.Given as goal

abbrev pub invariant-loop-i : goal.invariant-loop-i
invariant-loop-i l = Holds l.lists (take l.i (codes_of l.formula.clauses))
