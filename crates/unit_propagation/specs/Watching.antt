-- The rule of watches, the invariant of propagation, and how arena, trail and reasons may change under it.
use Rattle.std.specs.Prelude.{ℕ, false, [], ◌≡◌, ◌≢◌, ◌-◌, ◌<◌, ◌≤◌, ◌⊎◌, List, ◌∷◌, ◌++◌, Contains, All, take, length, Option, Some, slice_get, get_or}
use Rattle.clause_model.specs.Clauses.{negated, IsUnit}
use Rattle.clause_arena.specs.Contents.{Content, HasClause, HasLiteral, Watches, IsAfter, literals_of, chain_of}

-- the clause's slots watch two different literals of it
pub record IsWatched (content : Content) (at : ℕ) : Type 0 where
  pub first : ℕ
  pub second : ℕ
  pub watches_first : Watches content at 0 first
  pub watches_second : Watches content at 1 second
  pub different : first ≢ second
  pub first_in : Contains (literals_of content at) first
  pub second_in : Contains (literals_of content at) second

-- a clause that watches a literal watches two different ones of its own
abbrev pub IsAttached : Content → Type 0
IsAttached content = (at slot literal : ℕ) → Watches content at slot literal → IsWatched content at

-- the arena has each literal of its clauses, and the contrary of each of its literals
pub record IsKnown (content : Content) : Type 0 where
  pub literals : (at literal : ℕ) → HasClause content at → Contains (literals_of content at) literal → HasLiteral content literal
  pub contrary : (literal : ℕ) → HasLiteral content literal → HasLiteral content (negated literal)

-- the other slot's literal is true
abbrev pub IsOtherTrue : Content → List ℕ → ℕ → ℕ → Type 0
IsOtherTrue content a at slot = (other : ℕ) × (Watches content at (1 - slot) other × Contains a other)

-- where a watched literal's contrary is in p, the other watched literal is in a
abbrev pub RuleUpTo : Content → List ℕ → List ℕ → Type 0
RuleUpTo content p a = (at slot literal : ℕ) → Watches content at slot literal → Contains p (negated literal) → IsOtherTrue content a at slot

-- the rule of watches: where a watched literal is false, the other watched one is true
abbrev pub Rule : Content → List ℕ → Type 0
Rule content a = RuleUpTo content a a

-- the literal at a place of the trail became true by a clause that was unit under the literals before it
pub record IsReason (content : Content) (trail : List ℕ) (place reason : ℕ) : Type 0 where
  pub clause : HasClause content reason
  pub unit : IsUnit (take place trail) (literals_of content reason) (get_or trail place 0)

-- watches have moved and literals have become true, each by a reason, and the rule of watches is kept under each part of the earlier assignment
pub record IsLater (earlier : Content) (a : List ℕ) (before : List (Option ℕ)) (later : Content) (b : List ℕ) (reasons : List (Option ℕ)) : Type 0 where
  pub clauses : later.clauses ≡ earlier.clauses
  pub size : length later.chains ≡ length earlier.chains
  pub attached : IsAttached earlier → IsAttached later
  pub watched : (at : ℕ) → IsWatched earlier at → IsWatched later at
  pub literals : All (HasLiteral earlier) a → All (HasLiteral later) b
  pub longer : length a ≤ length b
  pub prefix : take (length a) b ≡ a
  pub aligned : length reasons ≡ length b
  pub reasons_kept : take (length a) reasons ≡ before
  pub kept : (n : ℕ) → n ≤ length a → Rule earlier (take n a) → Rule later (take n b)
  pub because : (k : ℕ) → length a ≤ k → k < length b → (reason : ℕ) × (slice_get reasons k ≡ Some (Some reason)) × IsReason later b k reason

-- where a watched literal's contrary is in p, the other one is true, but for the watches of the falsified literal in `later`
abbrev pub Due : Content → List ℕ → List ℕ → ℕ → List (ℕ × ℕ) → Type 0
Due content p a falsified later =
    (at slot literal : ℕ) → Watches content at slot literal → Contains p (negated literal) → ((literal ≡ falsified) × Contains later (at, slot)) ⊎ IsOtherTrue content a at slot

-- a watch has moved: it is no longer due, the others are as before, and the falsified literal's chain is without it
pub record IsMoved (earlier later : Content) (a : List ℕ) (falsified : ℕ) (before : Option (ℕ × ℕ)) (watch : ℕ × ℕ) : Type 0 where
  pub due : (p : List ℕ) (rest : List (ℕ × ℕ)) → ((k : ℕ) → Contains p k → Contains a k) → Due earlier p a falsified (watch ∷ rest) → Due later p a falsified rest
  pub chain : (seen rest : List (ℕ × ℕ)) → IsAfter earlier before watch falsified seen rest → chain_of later falsified ≡ seen ++ rest

-- a clause was added under a new reference, and each clause that watched two literals still does
pub record IsAdded (earlier : Content) (at : ℕ) (literals : List ℕ) (later : Content) : Type 0 where
  pub clauses : later.clauses ≡ earlier.clauses ++ record { at = at; literals = literals; is_dropped = false } ∷ []
  pub size : length later.chains ≡ length earlier.chains
  pub clause : HasClause later at
  pub new_literals : literals_of later at ≡ literals
  pub old_literals : (r : ℕ) → HasClause earlier r → HasClause later r × (literals_of later r ≡ literals_of earlier r)
  pub watched : (r : ℕ) → HasClause earlier r → IsWatched earlier r → IsWatched later r
  pub attached : IsAttached earlier → IsAttached later
  pub known : IsKnown earlier → All (HasLiteral earlier) literals → IsKnown later
