use Rattle.std.proofs.Common.{◌≡◌, ℕ, ◌<◌, List, [], get_or}
use Rattle.lrat_check.specs.Ending.{literals_in}
use Rattle.lrat_check.proofs.meanings.has_empty.Given as goal

abbrev pub invariant-loop-clause : goal.invariant-loop-clause
invariant-loop-clause l = (k : ℕ) (d : List ℕ) → k < l.clause-index → get_or (literals_in l.given) k d ≡ [] → ⊥
