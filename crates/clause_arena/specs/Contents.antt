-- What an arena holds: clauses as lists of literals, and for each literal the chain of the slots that watch it.
use Rattle.std.specs.Prelude.{ℕ, ◌≡◌, ◌<◌, Bool, true, false, cond, nat_eq, List, [], ◌∷◌, ◌++◌, Option, Some, None, map, get_or, set, length, Contains, slice_get, ◌-◌, AllPairs}

-- a clause under its reference
pub record Clause : Type 0 where
  pub at : ℕ
  pub literals : List ℕ
  pub is_dropped : Bool

-- the chain of a literal lists its watches: the reference of a clause and the slot, 0 or 1
pub record Content : Type 0 where
  pub clauses : List Clause
  pub chains : List (List (ℕ × ℕ))

-- the first clause under the reference
abbrev pub clause_among : List Clause → ℕ → Option Clause
clause_among [] at = None
clause_among (clause ∷ clauses) at = cond (nat_eq clause.at at) (Some clause) (clause_among clauses at)

abbrev pub clause_of : Content → ℕ → Option Clause
clause_of content at = clause_among content.clauses at

abbrev pub literals_in : Option Clause → List ℕ
literals_in None = []
literals_in (Some clause) = clause.literals

-- the references of the clauses
abbrev pub references_of : Content → List ℕ
references_of content = map (λ (c : Clause). c.at) content.clauses

-- the chain of a literal
abbrev pub chain_of : Content → ℕ → List (ℕ × ℕ)
chain_of content literal = get_or content.chains literal []

-- the arena has the literal
abbrev pub HasLiteral : Content → ℕ → Type 0
HasLiteral content literal = literal < length content.chains

-- the arena has the clause
abbrev pub HasClause : Content → ℕ → Type 0
HasClause content at = Contains (references_of content) at

-- the clause's slot watches the literal
abbrev pub Watches : Content → ℕ → ℕ → ℕ → Type 0
Watches content at slot literal = HasLiteral content literal × Contains (chain_of content literal) (at, slot)

-- the watch is a slot of a clause, and watches the literal
abbrev pub IsWatch : Content → ℕ → ℕ × ℕ → Type 0
IsWatch content literal watch = Watches content watch.0 watch.1 literal × HasClause content watch.0 × (watch.1 < 2)

-- the clause's slot watches no literal
abbrev pub WatchesNothing : Content → ℕ → ℕ → Type 0
WatchesNothing content at slot = (literal : ℕ) → Watches content at slot literal → ⊥

-- the clause's slot is there, and watches nothing
pub record IsFree (content : Content) (at slot : ℕ) : Type 0 where
  pub clause : HasClause content at
  pub low : slot < 2
  pub free : WatchesNothing content at slot

-- the literal's chain is replaced, and all else is as before
abbrev pub with_chain : Content → ℕ → List (ℕ × ℕ) → Content
with_chain content literal chain = record { clauses = content.clauses; chains = set content.chains literal chain }

-- the clause is added as the last
abbrev pub with_clause : Content → Clause → Content
with_clause content clause = record { clauses = content.clauses ++ clause ∷ []; chains = content.chains }

-- the clause is marked as dropped if it is the one under the reference
abbrev pub dropped : ℕ → Clause → Clause
dropped at clause = cond (nat_eq clause.at at) (record { at = clause.at; literals = clause.literals; is_dropped = true }) clause

-- the clause under the reference is marked as dropped, and all else is as before
abbrev pub with_dropped : Content → ℕ → Content
with_dropped content at = record { clauses = map (dropped at) content.clauses; chains = content.chains }

-- the slot watches the literal, first in its chain
abbrev pub watched : Content → ℕ → ℕ → ℕ → Content
watched content at slot literal = with_chain content literal ((at, slot) ∷ chain_of content literal)

-- the watch is in the literal's chain, right after the earlier ones and before the later ones
pub record IsBetween (content : Content) (literal : ℕ) (earlier : List (ℕ × ℕ)) (watch : ℕ × ℕ) (later : List (ℕ × ℕ)) : Type 0 where
  pub literal_known : HasLiteral content literal
  pub chain : chain_of content literal ≡ earlier ++ watch ∷ later

-- the literals of the clause under the reference
abbrev pub literals_of : Content → ℕ → List ℕ
literals_of content at = literals_in (clause_of content at)

-- the watch is in the literal's chain, and `before` is the one right before it, or none
pub record IsAfter (content : Content) (before : Option (ℕ × ℕ)) (watch : ℕ × ℕ) (literal : ℕ) (earlier later : List (ℕ × ℕ)) : Type 0 where
  pub between : IsBetween content literal earlier watch later
  pub last : slice_get earlier (length earlier - 1) ≡ before

-- whether the clause under the reference is dropped
abbrev pub dropped_in : Option Clause → Bool
dropped_in None = false
dropped_in (Some clause) = clause.is_dropped

abbrev pub is_dropped_of : Content → ℕ → Bool
is_dropped_of content at = dropped_in (clause_of content at)

-- the invariant of every arena's content
pub record IsWhole (content : Content) : Type 0 where
  -- references ascend, so that no two clauses have the same one
  pub apart : AllPairs (λ r s. r < s) (references_of content)
  -- a watch is a slot of a clause
  pub slots : (literal : ℕ) (watch : ℕ × ℕ) → HasLiteral content literal → Contains (chain_of content literal) watch → HasClause content watch.0 × (watch.1 < 2)
  -- a slot is in at most one chain
  pub one : (l m : ℕ) (watch : ℕ × ℕ) → HasLiteral content l → HasLiteral content m → Contains (chain_of content l) watch → Contains (chain_of content m) watch → l ≡ m
  -- and in that only once
  pub once : (literal : ℕ) (earlier : List (ℕ × ℕ)) (watch : ℕ × ℕ) (later : List (ℕ × ℕ)) → IsBetween content literal earlier watch later → Contains (earlier ++ later) watch → ⊥
