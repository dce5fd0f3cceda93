use Rattle.std.proofs.Common.{◌≡◌, take, map}
use Rattle.clause_model.specs.Clauses.{negated}
use Rattle.lrat_check.proofs.propagation.assume_false.Given as goal

abbrev pub invariant-loop-literal : goal.invariant-loop-literal
invariant-loop-literal l = l.assignment ≡ map negated (take l.literal-index l.literals)
