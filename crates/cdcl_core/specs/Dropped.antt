-- Which clauses are dropped because they are true before any decision, and what remains.
use Rattle.std.specs.Prelude.{ℕ, ◌≡◌, ◌<◌, ◌⊎◌, Bool, true, false, List, All, AllPairs, Contains, Option, Some, None, slice_get, get_or, length}
use Rattle.clause_arena.specs.Contents.{Content, is_dropped_of}
use Rattle.cdcl_core.specs.Implied.{IsSpare}

-- of the first n clauses these are kept, in their order, with their numbers, and the others are dropped
pub record Remains (content : Content) (refs ids : List ℕ) (n : ℕ) (kept names : List ℕ) : Type 0 where
  pub aligned : length names ≡ length kept
  pub ascending : AllPairs (λ r s. r < s) kept
  pub from : (k : ℕ) → k < length kept → (j : ℕ) × (j < n) × (get_or refs j 0 ≡ get_or kept k 0) × (get_or ids j 0 ≡ get_or names k 0)
  pub live : All (λ r. is_dropped_of content r ≡ false) kept
  pub dropped : (j : ℕ) → j < n → Contains kept (get_or refs j 0) ⊎ (is_dropped_of content (get_or refs j 0) ≡ true)

-- of the first n clauses each spare one is dropped
abbrev pub AreDropped : Content → List ℕ → List (Option ℕ) → List ℕ → ℕ → Type 0
AreDropped content refs reasons a n = (j : ℕ) → j < n → IsSpare content reasons a (get_or refs j 0) → is_dropped_of content (get_or refs j 0) ≡ true

-- the clause is marked
abbrev pub IsMarkedAt : List ℕ → List Bool → ℕ → Type 0
IsMarkedAt refs marks r = (j : ℕ) × (slice_get refs j ≡ Some r) × (get_or marks j false ≡ true)

-- each of the first n reasons is named by its new reference
pub record IsRenamed (kept moved : List ℕ) (reasons : List (Option ℕ)) (n : ℕ) (renamed : List (Option ℕ)) : Type 0 where
  pub count : length renamed ≡ n
  pub each : (k s : ℕ) → slice_get renamed k ≡ Some (Some s) → (r : ℕ) × (j : ℕ) × (slice_get reasons k ≡ Some (Some r)) × (slice_get kept j ≡ Some r) × (slice_get moved j ≡ Some s)
  pub none : (k : ℕ) → slice_get renamed k ≡ Some None → slice_get reasons k ≡ Some None
