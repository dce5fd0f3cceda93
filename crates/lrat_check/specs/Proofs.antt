-- Whole proofs and logs, the verdicts on them, and the words by which all verdicts are put together.
use Rattle.std.specs.Prelude.{ℕ, ◌≡◌, ◌⊎◌, ◌+◌, List, [], ◌∷◌, Option, Some, None, Result, Ok, Err, ℤ, ◌<◌, All, cond, false, nat_eq, length, map, unsigned_abs, ◌++◌, Any, ◌≢◌}
use Rattle.std.specs.List.{flat_map}
use Rattle.clause_model.specs.Clauses.{ReverseUnitPropagation, numbered, IsNew}
use Rattle.lrat_check.specs.Numbers.{is_negative}
use Rattle.lrat_check.specs.Text.{Content, addition, deletion, without, Deletes}

-- A verdict says of each answer, no fault or a fault, whether it is the right one.

-- P is tested, and e is the fault where it fails
abbrev pub Tests : {F : Type 0} → Type 0 → F → Option F → Type 0
Tests P e None = P
Tests P e (Some f) = (f ≡ e) × (P → ⊥)

-- the first's fault, or where it has none, the second's answer
abbrev pub Then : {F : Type 0} → (Option F → Type 0) → (Option F → Type 0) → Option F → Type 0
Then first second None = first None × second None
Then first second (Some f) = first (Some f) ⊎ (first None × second (Some f))

-- there is no fault
abbrev pub Passes : {F : Type 0} → Option F → Type 0
Passes None = Unit {0}
Passes (Some f) = ⊥

-- the elements in turn, numbered from n
abbrev pub InTurn : {X F : Type 0} → (ℕ → X → Option F → Type 0) → ℕ → List X → Option F → Type 0
InTurn test n [] o = Passes o
InTurn test n (x ∷ xs) o = Then (test n x) (InTurn test (n + 1) xs) o

-- a call's result is the verdict's answer, or the fault that memory didn't suffice
abbrev pub Answers : {A F : Type 0} → F → Result A F → (Option F → Type 0) → Type 0
Answers memory (Ok a) verdict = verdict None
Answers memory (Err e) verdict = (e ≡ memory) ⊎ verdict (Some e)

-- The lines of a proof, one after another.

-- the live clauses by their ids, and the greatest id so far
pub record Known : Type 0 where
  pub live : ℕ → Option (List ℕ)
  pub last : ℕ

-- the clauses of a formula are live, numbered from 1
abbrev pub started : List (List ℕ) → Known
started clauses = record { live = numbered clauses; last = length clauses }

-- the clauses with one more under an id
abbrev pub with_clause : (ℕ → Option (List ℕ)) → ℕ → List ℕ → ℕ → Option (List ℕ)
with_clause live id clause q = cond (nat_eq q id) (Some clause) (live q)

-- the clauses without those under the ids
abbrev pub without_all : (ℕ → Option (List ℕ)) → List ℕ → ℕ → Option (List ℕ)
without_all live [] = live
without_all live (id ∷ ids) = without_all (without live id) ids

-- an added clause becomes live under its id, and deleted ones are no longer live
abbrev pub after_line : Known → Content → Known
after_line known (addition id literals hints) = record { live = with_clause known.live id literals; last = id }
after_line known (deletion id ids) = record { live = without_all known.live ids; last = known.last }

-- the clause's id is above all before, no hint is negative, and the clause follows by its hints
pub record AcceptsAddition (known : Known) (id : ℕ) (literals : List ℕ) (hints : List ℤ) : Type 0 where
  pub later : known.last < id
  pub no_minus : All (λ h. is_negative h ≡ false) hints
  pub follows : ReverseUnitPropagation known.live literals (map unsigned_abs hints)

-- an addition is accepted as above, and a deletion where each of its ids is live in its turn
abbrev pub Accepts : Known → Content → Type 0
Accepts known (addition id literals hints) = AcceptsAddition known id literals hints
Accepts known (deletion id ids) = Deletes known.live ids (without_all known.live ids)

-- each line in turn is accepted
abbrev pub AllAccepted : Known → List Content → Type 0
AllAccepted known [] = Unit {0}
AllAccepted known (line ∷ lines) = Accepts known line × AllAccepted (after_line known line) lines

-- the clauses that a line adds, and those that lines add, in order
abbrev pub added : Content → List (List ℕ)
added (addition id literals hints) = literals ∷ []
added (deletion id ids) = []

abbrev pub additions : List Content → List (List ℕ)
additions lines = flat_map added lines

-- Whole proofs that a formula has no model.

-- the first line that isn't accepted, numbered from n
abbrev pub LinesVerdict : {F : Type 0} → (ℕ → F) → Known → ℕ → List Content → Option F → Type 0
LinesVerdict fault known n [] o = Passes o
LinesVerdict fault known n (line ∷ lines) o = Then (Tests (Accepts known line) (fault n)) (LinesVerdict fault (after_line known line) (n + 1) lines) o

-- an empty clause is among the formula's, or is added
abbrev pub HasEmpty : List (List ℕ) → List Content → Type 0
HasEmpty clauses lines = Any (λ clause. clause ≡ []) (clauses ++ additions lines)

-- the first line that isn't accepted, and where all are, that there is no empty clause
abbrev pub ProofVerdict : {F : Type 0} → (ℕ → F) → F → List (List ℕ) → List Content → Option F → Type 0
ProofVerdict fault unfinished clauses lines = Then (LinesVerdict fault (started clauses) 1 lines) (Tests (HasEmpty clauses lines) unfinished)

-- Logs of a search that spent its budget.

-- each clause in turn contains no clause before it, those that were deleted included
abbrev pub EachIsNew : List (List ℕ) → List (List ℕ) → Type 0
EachIsNew before [] = Unit {0}
EachIsNew before (clause ∷ clauses) = IsNew before clause × EachIsNew (before ++ clause ∷ []) clauses

-- the log adds as many clauses as the budget allows, none of them empty
abbrev pub Spends : ℕ → List Content → Type 0
Spends budget log = (length (additions log) ≡ budget) × All (λ clause. clause ≢ []) (additions log)

-- the log adds as many clauses as the budget allows, none of them empty and each new, and all its lines are accepted
pub record IsSpentLog (budget : ℕ) (clauses : List (List ℕ)) (log : List Content) : Type 0 where
  pub spends : Spends budget log
  pub accepted : AllAccepted (started clauses) log
  pub new : EachIsNew clauses (additions log)
