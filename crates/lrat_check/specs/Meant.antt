-- Which clause an id names while a proof is trimmed, and how much of an addition's hints is looked at.
use Rattle.std.specs.Prelude.{ℕ, ℤ, ◌≡◌, ◌≤◌, ◌+◌, List, Option, map, slice_index_or, take, unsigned_abs}
use Rattle.clause_model.specs.Clauses.{negated, hint_lengths}
use Rattle.lrat_check.specs.declared.meanings.Meanings.{Meanings}
use Rattle.lrat_check.specs.declared.shown.Shown.{Shown}
use Rattle.lrat_check.specs.Text.{Content, addition, meant, Suffice, HasEmpty}
use Rattle.lrat_check.specs.Costs.{IsPartOf}
use Rattle.lrat_check.specs.Runs.{IsRefutation}
use Rattle.lrat_check.specs.Ending.{add_of, adds_of, literals_in, up_to_empty}

-- the clause that an id names
abbrev pub meant_by : Meanings → ℕ → Option (List ℕ)
meant_by m = meant (literals_in m.given.items) (adds_of m.additions.items)

-- the lines refute clauses of which none is empty, and the additions are those up to the empty clause
pub record IsMeant (clauses : List (List ℕ)) (lines : List Content) (m : Meanings) : Type 0 where
  pub refutes : IsRefutation clauses lines
  pub open' : HasEmpty clauses → ⊥
  pub given' : literals_in m.given.items ≡ clauses
  pub ends : adds_of m.additions.items ≡ up_to_empty lines

-- the addition at the place, and how many of its first hints suffice
pub record ShowsAt (m : Meanings) (place : ℕ) (shown : Shown) : Type 0 where
  pub there : add_of shown.addition ≡ slice_index_or (adds_of m.additions.items) place (add_of shown.addition)
  pub suffice : Suffice (meant_by m) (map negated shown.addition.now.literals.items) (map unsigned_abs shown.addition.now.hints.items) shown.hints

-- no more literals are looked at than those of the clauses that the fewest sufficient hints name, under any extension of the ids' clauses
abbrev pub LooksAtFewest : Meanings → ℕ → ℕ → ℕ → Type 0
LooksAtFewest m place before after =
    (later : ℕ → Option (List ℕ)) (n id : ℕ) (literals : List ℕ) (hints : List ℤ) → IsPartOf (meant_by m) later → slice_index_or (adds_of m.additions.items) place (addition id literals hints) ≡ addition id literals hints
    → Suffice later (map negated literals) (map unsigned_abs hints) n → after ≤ before + hint_lengths later (take n (map unsigned_abs hints))
