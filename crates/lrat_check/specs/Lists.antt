-- Clauses grouped by one of their literals, in which the clauses contained in another one are looked for.
use Rattle.std.specs.Prelude.{ℕ, ◌≡◌, ◌≢◌, ◌+◌, ◌≤◌, ◌++◌, ◌∷◌, ◌↔◌, ◌⊎◌, Bool, List, [], All, Any, Contains, IsTrue, Vec, length, map, slice_index_or, sum_by}
use Rattle.std.specs.Global.{Global}

-- the lists by the codes of their literals, and whether there is an empty clause, which is in none
pub record ClauseLists : Type 0 where
  pub lists : List (List (List ℕ))
  pub has_empty : Bool

-- the clauses of each list
abbrev pub listed : List (Vec (List ℕ) Global) → List (List (List ℕ))
listed lists = map (λ (list : Vec (List ℕ) Global). list.items) lists

-- the list of a literal
abbrev pub under : List (List (List ℕ)) → ℕ → List (List ℕ)
under lists l = slice_index_or lists l []

-- each clause that isn't empty is in the list of one of its literals, and the lists have no other clause
pub record Holds (kept : ClauseLists) (clauses : List (List ℕ)) : Type 0 where
  pub empty : IsTrue kept.has_empty ↔ Contains clauses []
  pub found : All (λ clause. (clause ≡ []) ⊎ Any (λ l. Contains (under kept.lists l) clause) clause) clauses
  pub only : (l : ℕ) → All (Contains clauses) (under kept.lists l)
  pub lengths : sum_by (sum_by length) kept.lists ≤ sum_by length clauses

-- the clause was added to the list of the literal, and the other lists are as before
pub record Keeps (earlier later : List (List (List ℕ))) (l : ℕ) (clause : List ℕ) : Type 0 where
  pub here : under later l ≡ under earlier l ++ clause ∷ []
  pub others : (m : ℕ) → m ≢ l → under later m ≡ under earlier m
  pub lengths : sum_by (sum_by length) later ≡ sum_by (sum_by length) earlier + length clause
