-- A checker's state, and when it accepts a line: the definition of a valid proof step.
use Rattle.std.specs.Prelude.{ℕ, ℤ, ◌≡◌, ◌<◌, ◌⊎◌, ◌↔◌, Bool, false, List, [], All, Any, Option, IsTrue, map, unsigned_abs, length}
use Rattle.clause_model.specs.Clauses.{ReverseUnitPropagation, SatisfiesLive, numbered}
use Rattle.lrat_check.specs.Numbers.{is_negative}
use Rattle.lrat_check.specs.Text.{Content, addition, deletion, Deletes}
use Rattle.lrat_check.specs.Live.{found_in, Adds}

-- the live clauses with their ids, the greatest id so far, and whether an empty clause is or was among them
pub record State : Type 0 where
  pub entries : List (ℕ × List ℕ)
  pub last : ℕ
  pub refuted : Bool

-- the live clause under an id
abbrev pub live_at : State → ℕ → Option (List ℕ)
live_at state = found_in state.entries

-- the clauses of a formula are live, numbered from 1
pub record Starts (clauses : List (List ℕ)) (state : State) : Type 0 where
  pub live : (id : ℕ) → live_at state id ≡ numbered clauses id
  pub last : state.last ≡ length clauses
  pub refuted : IsTrue state.refuted ↔ Any (λ clause. clause ≡ []) clauses

-- the clause follows by its hints, and becomes live under an id above all before
pub record AddsClause (old : State) (id : ℕ) (literals : List ℕ) (hints : List ℤ) (new : State) : Type 0 where
  pub later : old.last < id
  pub no_minus : All (λ h. is_negative h ≡ false) hints
  pub follows : ReverseUnitPropagation (live_at old) literals (map unsigned_abs hints)
  pub live : Adds (live_at old) (live_at new) id literals
  pub last : new.last ≡ id
  pub refuted : IsTrue new.refuted ↔ (IsTrue old.refuted ⊎ (literals ≡ []))

-- each id is live in its turn, and is no longer after it
pub record DeletesClauses (old : State) (ids : List ℕ) (new : State) : Type 0 where
  pub live : Deletes (live_at old) ids (live_at new)
  pub last : new.last ≡ old.last
  pub refuted : new.refuted ≡ old.refuted

-- the line is accepted, and leads from one state to the other
abbrev pub Accepts : State → Content → State → Type 0
Accepts old (addition id literals hints) new = AddsClause old id literals hints new
Accepts old (deletion id ids) new = DeletesClauses old ids new

-- v makes each live clause true, and there never was an empty one
pub record HoldsAt (v : ℕ → Bool) (state : State) : Type 0 where
  pub live : SatisfiesLive v (live_at state)
  pub standing : state.refuted ≡ false

-- the states that are reachable by accepted lines from the clauses of a formula
pub data Reached (clauses : List (List ℕ)) : State → Type 0 where
  begun : {state : State} → Starts clauses state → Reached clauses state
  accepted : {new : State} (old : State) (content : Content) → Reached clauses old → Accepts old content new → Reached clauses new
