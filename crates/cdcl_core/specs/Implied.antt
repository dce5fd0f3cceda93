-- What propagation shows about clauses, and the invariant of trail, reasons and watches while decisions are made.
use Rattle.std.specs.Prelude.{ℕ, ◌≡◌, ◌≤◌, ◌⊎◌, true, List, [], All, Any, Contains, Option, Some, None, slice_get, get_or, length, take, map}
use Rattle.clause_model.specs.Clauses.{negated, IsConsistent, AllFalse, IsClosed}
use Rattle.clause_arena.specs.Contents.{Clause, Content, HasClause, HasLiteral, literals_of, is_dropped_of, references_of}
use Rattle.unit_propagation.specs.Watching.{IsAttached, IsKnown, IsWatched, IsReason, Rule}

-- the clauses of an arena, in order
abbrev pub clauses_of : Content → List (List ℕ)
clauses_of content = map (λ (c : Clause). c.literals) content.clauses

-- a clause of the arena is false
abbrev pub IsConflict : Content → List ℕ → ℕ → Type 0
IsConflict content a at = HasClause content at × AllFalse a (literals_of content at)

-- nothing is left to propagate, and no clause is false
pub record IsSettled (clauses : List (List ℕ)) (a : List ℕ) : Type 0 where
  pub consistent : IsConsistent a
  pub closed : IsClosed clauses a

-- no closed assignment makes each literal false
abbrev pub IsRefutable : List (List ℕ) → List ℕ → Type 0
IsRefutable clauses literals = (a : List ℕ) → IsConsistent a → IsClosed clauses a → AllFalse a literals → ⊥

-- each literal of the trail became true by its reason, or denies one of these literals
pub record IsJustified (content : Content) (denied : List ℕ) (reasons : List (Option ℕ)) (trail : List ℕ) : Type 0 where
  pub aligned : length reasons ≡ length trail
  pub because : (k r : ℕ) → slice_get reasons k ≡ Some (Some r) → IsReason content trail k r
  pub given : (k : ℕ) → slice_get reasons k ≡ Some None → Contains denied (negated (get_or trail k 0))

-- each clause watches two different literals of its own, or has a true literal
abbrev pub IsCovered : Content → List ℕ → Type 0
IsCovered content a = (at : ℕ) → HasClause content at → IsWatched content at ⊎ Any (Contains a) (literals_of content at)

-- no literal became true by the clause
abbrev pub IsNoReason : List (Option ℕ) → ℕ → Type 0
IsNoReason reasons at = (k : ℕ) → slice_get reasons k ≡ Some (Some at) → ⊥

-- the clause has a true literal, and is no literal's reason
abbrev pub IsSpare : Content → List (Option ℕ) → List ℕ → ℕ → Type 0
IsSpare content reasons a at = IsNoReason reasons at × Any (Contains a) (literals_of content at)

-- each clause that is dropped is spare
abbrev pub AreSpare : Content → List (Option ℕ) → List ℕ → Type 0
AreSpare content reasons a = (at : ℕ) → HasClause content at → is_dropped_of content at ≡ true → IsSpare content reasons a at

-- what doesn't change while decisions are made: the clauses with their references, how many literals there are, and those that are true before any decision
pub record Level : Type 0 where
  pub clauses : List (List ℕ)
  pub references : List ℕ
  pub size : ℕ
  pub low : ℕ
  pub base : List ℕ

abbrev pub level_of : Content → List ℕ → ℕ → Level
level_of content trail low = record { clauses = clauses_of content; references = references_of content; size = length content.chains; low = low; base = take low trail }

-- the trail begins with the literals that are true before any decision, under which nothing is left to propagate
pub record BeginsAtRoot (level : Level) (content : Content) (reasons : List (Option ℕ)) (trail : List ℕ) : Type 0 where
  pub clauses : clauses_of content ≡ level.clauses
  pub references : references_of content ≡ level.references
  pub size : length content.chains ≡ level.size
  pub within : level.low ≤ length trail
  pub base : take level.low trail ≡ level.base
  pub attached : IsAttached content
  pub known : IsKnown content
  pub literals : All (HasLiteral content) trail
  pub aligned : length reasons ≡ length trail
  pub covered : IsCovered content level.base
  pub rule : Rule content level.base
  pub justified : IsJustified content [] (take level.low reasons) level.base
  pub spare : AreSpare content (take level.low reasons) level.base
