-- The state at a conflict, and what must hold of the clause that is learnt from it.
use Rattle.std.specs.Prelude.{ℕ, ◌≡◌, ◌≢◌, ◌<◌, ◌≤◌, ◌⊎◌, List, ◌∷◌, All, Contains, Option, Some, None, slice_get, length, take}
use Rattle.clause_model.specs.Clauses.{negated, IsFalse, IsUnset, IsConsistent, AllFalse, IsClosed}
use Rattle.clause_arena.specs.Contents.{Content}
use Rattle.unit_propagation.specs.Watching.{IsReason}
use Rattle.cdcl_core.specs.Implied.{clauses_of, IsConflict, IsRefutable}

-- a clause is false under the trail; nothing was left to propagate before the decision at `start`, each later literal has a reason, and the first `low` ones are true in each closed assignment
pub record AtConflict (content : Content) (reasons : List (Option ℕ)) (trail : List ℕ) (low start conflict : ℕ) : Type 0 where
  pub aligned : length reasons ≡ length trail
  pub because : (k r : ℕ) → slice_get reasons k ≡ Some (Some r) → IsReason content trail k r
  pub later : (k : ℕ) → start < k → k < length reasons → slice_get reasons k ≢ Some None
  pub closed : IsClosed (clauses_of content) (take start trail)
  pub falsified : IsConflict content trail conflict
  pub order : low ≤ start
  pub forced : (a : List ℕ) → IsConsistent a → IsClosed (clauses_of content) a → All (Contains a) (take low trail)

-- the clause of u and the others is refutable; before the decision the others are false and u is unset; none is false before any decision
pub record LearnsFrom (clauses : List (List ℕ)) (trail : List ℕ) (low start u : ℕ) (others : List ℕ) : Type 0 where
  pub refutable : IsRefutable clauses (u ∷ others)
  pub unset : IsUnset (take start trail) u
  pub lower : AllFalse (take start trail) others
  pub falsified : IsFalse trail u
  pub fresh : All (λ l. IsFalse (take low trail) l → ⊥) (u ∷ others)

-- the seen literals are those before and the true ones whose contraries the clause has
pub record Sees (trail clause before seen : List ℕ) : Type 0 where
  pub part : All (Contains trail) seen
  pub grows : All (Contains seen) before
  pub all : All (λ l. IsFalse trail l → Contains seen (negated l)) clause
  pub only : All (λ t. Contains before t ⊎ Contains clause (negated t)) seen
