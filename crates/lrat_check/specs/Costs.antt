-- How many literals a checker looks at for the hints of a line, which is what its steps count.
use Rattle.std.specs.Prelude.{ℕ, ℤ, ◌≡◌, ◌<◌, ◌+◌, ◌⊎◌, List, [], ◌∷◌, ◌++◌, All, Option, Some, None, false, length, map, unsigned_abs}
use Rattle.step_ledger.specs.Counts.{RisesBy}
use Rattle.clause_model.specs.Clauses.{negated, AllFalse, IsUnit, IsOpen, hint_lengths}
use Rattle.lrat_check.specs.Numbers.{is_negative}
use Rattle.lrat_check.specs.Text.{Content, addition, deletion}
use Rattle.lrat_check.specs.Checking.{State, live_at}

-- the lengths of the live clauses that the hints of a line name
abbrev pub cost_of : State → Content → ℕ
cost_of state (addition id literals hints) = hint_lengths (live_at state) (map unsigned_abs hints)
cost_of state (deletion id ids) = 0

-- n is the sum of the lengths of the clauses that the hints name, up to and including the first one that isn't unit
abbrev pub LooksAt : (ℕ → Option (List ℕ)) → List ℕ → List ℕ → ℕ → Type 0
LooksAt live a [] n = n ≡ 0
LooksAt live a (h ∷ hints) n =
    ((live h ≡ None) × (n ≡ 0))
    ⊎ ((clause : List ℕ) × (live h ≡ Some clause)
    × (((AllFalse a clause ⊎ IsOpen a clause) × (n ≡ length clause)) ⊎ ((u : ℕ) × (m : ℕ) × IsUnit a clause u × LooksAt live (a ++ u ∷ []) hints m × (n ≡ length clause + m))))

-- the id is above all before, and no hint is negative
abbrev pub IsInOrder : State → ℕ → List ℤ → Type 0
IsInOrder old id hints = (old.last < id) × All (λ h. is_negative h ≡ false) hints

-- the hints are followed, with each literal of the clause false, only where the id and the hints are in order
abbrev pub Looks : State → Content → ℕ → Type 0
Looks old (addition id literals hints) n =
    (IsInOrder old id hints × LooksAt (live_at old) (map negated literals) (map unsigned_abs hints) n) ⊎ ((IsInOrder old id hints → ⊥) × (n ≡ 0))
Looks old (deletion id ids) n = n ≡ 0

-- a step for each literal that is looked at
abbrev pub Counts : State → Content → ℕ → ℕ → Type 0
Counts old content before after = (n : ℕ) × Looks old content n × RisesBy before after n

-- each clause of the first is in the second too, under the same id
abbrev pub IsPartOf : (ℕ → Option (List ℕ)) → (ℕ → Option (List ℕ)) → Type 0
IsPartOf live later = (q : ℕ) (clause : List ℕ) → live q ≡ Some clause → later q ≡ Some clause
