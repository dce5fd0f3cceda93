-- The live clauses, each with its id, in an order without meaning: the view of the checker's hash map.
use Rattle.std.specs.Prelude.{ℕ, ◌≡◌, ◌≢◌, List, Option, Some, Vec, nat_eq, map}
use Rattle.std.specs.Global.{Global}
use Rattle.std.specs.HashMap.{HashMap}
use Rattle.std.specs.Map.{lookup}
use Rattle.std.specs.declared.hash.FoldHasher.{FoldHasher}
use Rattle.std.specs.declared.hash.BuildHasherDefault.{BuildHasherDefault}

-- the clause under an id
abbrev pub found_in : List (ℕ × List ℕ) → ℕ → Option (List ℕ)
found_in entries id = lookup (nat_eq id) entries

-- what a map holds
abbrev pub LiveMap : Type 0
LiveMap = HashMap ℕ (Vec ℕ Global) (BuildHasherDefault FoldHasher)

abbrev pub listed : LiveMap → List (ℕ × List ℕ)
listed live = map (λ (e : ℕ × Vec ℕ Global). (e.0, e.1.items)) live.entries

abbrev pub clause_at : LiveMap → ℕ → Option (List ℕ)
clause_at live = found_in (listed live)

-- `later` has the clause under the id, and otherwise what `earlier` has
abbrev pub Adds : (ℕ → Option (List ℕ)) → (ℕ → Option (List ℕ)) → ℕ → List ℕ → Type 0
Adds earlier later id clause = (later id ≡ Some clause) × ((q : ℕ) → q ≢ id → later q ≡ earlier q)
