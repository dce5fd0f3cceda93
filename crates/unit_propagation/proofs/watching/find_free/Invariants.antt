use Rattle.std.proofs.Common.{◌≡◌, ◌⊎◌, take}
use Rattle.std.specs.Prelude.{All}
use Rattle.clause_model.specs.Clauses.{IsFalse}
use Rattle.unit_propagation.proofs.watching.find_free.Given as goal

abbrev pub invariant-loop-literal : goal.invariant-loop-literal
invariant-loop-literal l = All (λ x. (x ≡ l.other) ⊎ IsFalse l.assignment x) (take l.literal-index l.literals)
