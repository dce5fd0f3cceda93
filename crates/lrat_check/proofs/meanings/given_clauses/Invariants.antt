use Rattle.std.proofs.Common.{◌≡◌, take}
use Rattle.clause_model.specs.Clauses.{codes_of}
use Rattle.lrat_check.specs.Ending.{literals_in}
use Rattle.lrat_check.proofs.meanings.given_clauses.Given as goal

abbrev pub invariant-loop-i : goal.invariant-loop-i
invariant-loop-i l = literals_in l.given.items ≡ take l.i (codes_of l.formula.clauses)
