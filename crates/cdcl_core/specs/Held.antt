-- How the clauses of formula and log relate to those that the arena still holds after some were dropped.
use Rattle.std.specs.Prelude.{ℕ, ◌≡◌, ◌<◌, ◌⊎◌, List, [], All, Any, Contains, Option, Some, get_or, length}
use Rattle.clause_model.specs.Clauses.{numbered}

-- each clause that is held is live under its number
abbrev pub AreNumbered : (ℕ → Option (List ℕ)) → List (List ℕ) → List ℕ → Type 0
AreNumbered live held ids = (k : ℕ) → k < length held → live (get_or ids k 0) ≡ Some (get_or held k [])

-- the clauses are numbered from 1; each is held under its number, or has a literal that is true before any decision
pub record Covers (clauses held : List (List ℕ)) (ids base : List ℕ) : Type 0 where
  pub aligned : length ids ≡ length held
  pub numbers : AreNumbered (numbered clauses) held ids
  pub kept : All (λ clause. Contains held clause ⊎ Any (Contains base) clause) clauses
