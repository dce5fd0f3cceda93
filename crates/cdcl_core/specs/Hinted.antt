-- A conflict that propagation reached from given literals, each other true literal having a reason: a line of the log can be derived from it.
use Rattle.std.specs.Prelude.{ℕ, ◌≡◌, ◌≢◌, ◌<◌, List, All, AllPairs, Contains, Option, Some, None, slice_get, get_or, length}
use Rattle.clause_arena.specs.Contents.{Content, references_of}
use Rattle.unit_propagation.specs.Watching.{IsReason}
use Rattle.cdcl_core.specs.declared.solver.Solver.{Solver}
use Rattle.cdcl_core.specs.Implied.{IsConflict}

-- a clause is false under the trail, whose literals but the given ones have reasons
pub record HasReasons (content : Content) (reasons : List (Option ℕ)) (trail givens : List ℕ) (conflict : ℕ) : Type 0 where
  pub aligned : length reasons ≡ length trail
  pub because : (k r : ℕ) → slice_get reasons k ≡ Some (Some r) → IsReason content trail k r
  pub given : (k : ℕ) → slice_get reasons k ≡ Some None → Contains givens (get_or trail k 0)
  pub proper : (k r : ℕ) → slice_get reasons k ≡ Some (Some r) → Contains givens (get_or trail k 0) → ⊥
  pub part : All (Contains trail) givens
  pub falsified : IsConflict content trail conflict

-- the same for a solver's fields, where each clause has a reference and an id; the given literals differ
pub record IsDerivable (solver : Solver) (givens : List ℕ) (conflict : ℕ) : Type 0 where
  pub refs : solver.refs.items ≡ references_of solver.arena
  pub ids : length solver.ids.items ≡ length solver.refs.items
  pub reasons : HasReasons solver.arena solver.reasons.items solver.trail givens conflict
  pub distinct : AllPairs (λ l m. l ≢ m) givens
  pub bounded : All (λ l. l < 400000) givens
