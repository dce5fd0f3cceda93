-- The laws of tidying: runs are kept, it ends, is complete and determined, lines can still be laid out, and what is reached never changes.
use Rattle.std.specs.Prelude.{◌≡◌, ◌≢◌, ◌↔◌, ℕ, ◌+◌, ◌*◌, ◌≤◌, List, [], ◌∷◌, length, IsSome}
use Rattle.thumb_model.specs.Listing.{Name, ListingLine, places_of, code_of, place_of}
use Rattle.thumb_model.specs.Literals.{HasLiterals}
use Rattle.thumb_model.specs.Layout.{Layable}
use Rattle.thumb_model.specs.Same.{Same}
use Rattle.thumb_model.specs.Replaced.{moved}
use Rattle.thumb_model.specs.Flow.{Reached}
use Rattle.flow_tidy.specs.Tidying.{Setting, Cause, ToNext, ToEnd, Idle, Change, HasCause, lines_after, NonePossible, AreTidied, AllPossible}

-- ---- all changes ----

-- the changes and the lines are determined: two tidied listings of one are the same
abbrev pub TidyingIsDetermined : Type 0
TidyingIsDetermined = (s : Setting) (ls : List ListingLine) (cs ds : List Change) (new other : List ListingLine) → AreTidied s ls cs new → AreTidied s ls ds other → (cs ≡ ds) × (new ≡ other)

-- each change was possible in the lines as they then were, and none is in those that are left
abbrev pub TidyingIsComplete : Type 0
TidyingIsComplete = (s : Setting) (ls : List ListingLine) (cs : List Change) (new : List ListingLine) → AreTidied s ls cs new → AllPossible s ls cs × NonePossible s new

-- tidying ends: of n places there are at most n * (n + 1) changes, as each takes a place away, or a branch from a chain; and no more places are left
abbrev pub TidyingEnds : Type 0
TidyingEnds = (s : Setting) (ls : List ListingLine) (cs : List Change) (new : List ListingLine) → AreTidied s ls cs new → (length cs ≤ length (places_of ls) * (length (places_of ls) + 1)) × (length (places_of new) ≤ length (places_of ls))

-- tidied lines run the same, where the literals of the given ones stand behind their labels
abbrev pub TidyingKeepsRuns : Type 0
TidyingKeepsRuns = (s : Setting) (ls : List ListingLine) (cs : List Change) (new : List ListingLine) → HasLiterals (code_of ls) → AreTidied s ls cs new → Same (code_of ls) (code_of new)

-- lines that can be laid out stay so
abbrev pub TidyingStaysLayable : Type 0
TidyingStaysLayable = (s : Setting) (ls : List ListingLine) (cs : List Change) (new : List ListingLine) → Layable s.base ls → AreTidied s ls cs new → Layable s.base new

-- ---- one change ----

-- a change for its cause keeps the runs, whatever the layout and the limits say of it
abbrev pub ChangesKeepRuns : Type 0
ChangesKeepRuns = (s : Setting) (c : Change) (ls : List ListingLine) → HasLiterals (code_of ls) → HasCause (code_of ls) c.place c.cause → Same (code_of ls) (code_of (lines_after s c ls))

-- and each code label is still a code label
abbrev pub LabelsStayCode : Type 0
LabelsStayCode = (s : Setting) (c : Change) (ls : List ListingLine) → HasCause (code_of ls) c.place c.cause → (label : Name) → IsSome (place_of (code_of ls) label) → IsSome (place_of (code_of (lines_after s c ls)) label)

-- ---- what is reached ----

-- the number of place q after a change at p: it is one less where an instruction before q was removed
abbrev pub came_to_by : ℕ → Cause → ℕ → ℕ
came_to_by p ToNext q = moved p 1 q
came_to_by p (ToEnd label) q = q
came_to_by p Idle q = moved p 1 q

abbrev pub came_to : Change → ℕ → ℕ
came_to c q = came_to_by c.place c.cause q

-- the change doesn't remove the place q
abbrev pub IsKeptBy : ℕ → Cause → ℕ → Type 0
IsKeptBy p ToNext q = q ≢ p
IsKeptBy p (ToEnd label) q = Unit {0}
IsKeptBy p Idle q = q ≢ p

abbrev pub IsKept : Change → ℕ → Type 0
IsKept c q = IsKeptBy c.place c.cause q

-- the number of a place after all changes
abbrev pub came_through : List Change → ℕ → ℕ
came_through [] q = q
came_through (c ∷ cs) q = came_through cs (came_to c q)

abbrev pub AreKept : List Change → ℕ → Type 0
AreKept [] q = Unit {0}
AreKept (c ∷ cs) q = IsKept c q × AreKept cs (came_to c q)

-- what is reached never changes while tidying: a place that stays is reached afterwards exactly where it was before
abbrev pub ReachedStays : Type 0
ReachedStays = (s : Setting) (ls : List ListingLine) (cs : List Change) (new : List ListingLine) → AreTidied s ls cs new → (q : ℕ) → AreKept cs q → Reached (code_of ls) q ↔ Reached (code_of new) (came_through cs q)

-- and the same after each change
abbrev pub ReachedStaysByEach : Type 0
ReachedStaysByEach = (s : Setting) (c : Change) (ls : List ListingLine) → HasCause (code_of ls) c.place c.cause → (q : ℕ) → IsKept c q → Reached (code_of ls) q ↔ Reached (code_of (lines_after s c ls)) (came_to c q)
