use Rattle.std.proofs.Common.{◌≡◌, take, map}
use Rattle.clause_model.specs.Clauses.{negated}
use Rattle.cdcl_core.proofs.hinting.negations.Given as goal

abbrev pub invariant-loop-literal : goal.invariant-loop-literal
invariant-loop-literal l = l.found.items ≡ map negated (take l.literal-index l.literals)
