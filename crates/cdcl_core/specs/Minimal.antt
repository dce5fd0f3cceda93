-- What minimising guarantees: none of the remaining literals is redundant.
use Rattle.std.specs.Prelude.{ℕ, List, ◌++◌, All}
use Rattle.clause_model.specs.Clauses.{IsFreed}
use Rattle.cdcl_core.specs.Implied.{IsRefutable}

-- the literals of `part` with the others are refutable, and without any one of `part` propagation doesn't refute them
pub record AreNeeded (clauses : List (List ℕ)) (others part : List ℕ) : Type 0 where
  pub refutable : IsRefutable clauses (others ++ part)
  pub freed : All (IsFreed clauses (others ++ part)) part
