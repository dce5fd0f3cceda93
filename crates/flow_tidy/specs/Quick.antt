-- Tidying while places keep their numbers, as far as each change surely can be made.
use Rattle.std.specs.Prelude.{◌≡◌, ℕ, ◌+◌, ◌%◌, ◌<◌, ◌≤◌, ◌&&◌, Bool, true, false, List, [], ◌∷◌, length, Some, option_and_then, slice_get, if◌then◌else◌}
use Rattle.thumb_instr.specs.declared.instr.Instr.{Instr}
use Rattle.thumb_model.specs.Listing.{Name, ListingLine, code_of, place_of, places_of}
use Rattle.thumb_model.specs.Replaced.{is_op}
use Rattle.code_flow.specs.Marks.{AreMarks}
use Rattle.kept_places.specs.Marks.{is_gone, rank}
use Rattle.listing_draft.specs.Drafted.{Drafted, instr_in, lines_now, name_in, now_of, stands}
use Rattle.listing_draft.specs.Invariant.{IsDraft}
use Rattle.listing_parser.specs.Grammar.{longest_line, most_lines}
use Rattle.listing_parser.specs.Parsing.{line_mentioning}
use Rattle.steady_layout.specs.Steady.{IsSteady}
use Rattle.flow_tidy.specs.declared.widest_layout.WidestLayout.{WidestLayout}
use Rattle.flow_tidy.specs.declared.outcome.PlaceOutcome.{PlaceOutcome}
use Rattle.flow_tidy.specs.declared.outcome.PlaceOutcome.TheVariants as outcome
use Rattle.flow_tidy.specs.declared.outcome.Redirected.{Redirected}
use Rattle.flow_tidy.specs.declared.outcome.Redirected.TheVariants as redirected
use Rattle.flow_tidy.specs.declared.outcome.Way.{Way}
use Rattle.flow_tidy.specs.declared.outcome.Way.TheVariants as way
use Rattle.flow_tidy.specs.Tidying.{line_length, lines_by, rank as turn, Cause, ToEnd, GoesToEnd, GoesToNext, HasCause, IsPossible, setting}
use Rattle.flow_tidy.specs.DuePlaces.{AreDue, HasEnd}
use Rattle.flow_tidy.specs.Halves.{wide_of}
use Rattle.flow_tidy.specs.Made.{change, label_of_branch}
use Rattle.flow_tidy.specs.WidestLayout.{IsWidestLayout, IsSteadyTo}

-- of marks of all places, those of the places that are kept
abbrev pub left : List Bool → List Bool → List Bool
left [] xs = xs
left (g ∷ gs) [] = []
left (true ∷ gs) (x ∷ xs) = left gs xs
left (false ∷ gs) (x ∷ xs) = x ∷ left gs xs

-- ---- limits ----

abbrev pub some_name : List Name → Bool
some_name [] = false
some_name (n ∷ ns) = true

-- how many lines may come of a line: two where an instruction's labels may get a line of their own
abbrev pub counts_for : ListingLine → ℕ
counts_for l = if is_op l.statement && some_name l.names then 2 else 1

abbrev pub room_taken : List ListingLine → ℕ
room_taken [] = 0
room_taken (l ∷ ls) = counts_for l + room_taken ls

-- each line is short, and so is what stays of it for its labels
abbrev pub AllShort : ℕ → List ListingLine → Type 0
AllShort longest [] = Unit {0}
AllShort longest (l ∷ ls) = (line_length l.text ≤ longest) × (line_length l.front ≤ longest) × AllShort longest ls

-- lines that stay few and short, whichever instructions go
pub record HaveRoom (most longest : ℕ) (ls : List ListingLine) : Type 0 where
  pub few : room_taken ls ≤ most
  pub short : AllShort longest ls

-- lines that can be laid out and stay within the limits, whichever instructions go
pub record IsSure (base : ℕ) (ls : List ListingLine) : Type 0 where
  pub whole_words : base % 4 ≡ 0
  pub steady : IsSteady base ls
  pub room : HaveRoom most_lines longest_line ls

-- ---- what is known of a draft ----

-- what is reached and due of its lines now, by marks of all places
pub record IsQuick (d : Drafted) (marks dues : List Bool) : Type 0 where
  pub many : length dues ≡ length d.gone
  pub all : length marks ≡ length d.gone
  pub reached : AreMarks (code_of (lines_now d)) (left d.gone marks)
  pub due : AreDue (code_of (lines_now d)) (left d.gone dues)

-- the lines with branches redirected as now, but with none of the instructions gone
abbrev pub whole : Drafted → List ListingLine
whole d = now_of [] d.aims d.given

-- what stays while changes are made: the lines now are sure, those with none of the instructions gone are steady, the widest layout is that of the given lines, and no call of a label is gone
pub record IsSafe (g : WidestLayout) (d : Drafted) : Type 0 where
  pub draft : IsDraft d
  pub widest : IsWidestLayout d.given g
  pub sure : IsSure g.base (lines_now d)
  pub steady : IsSteady g.base (whole d)
  pub narrow : (p : ℕ) → is_gone d.gone p ≡ true → wide_of (slice_get (places_of d.given) p) ≡ 0

-- the branch at a kept place goes to this kept one
pub record GoesTo (d : Drafted) (p to : ℕ) : Type 0 where
  pub is : Some (rank d.gone to) ≡ option_and_then (place_of (code_of (lines_now d))) (label_of_branch (stands d p))
  pub within : to < length d.gone
  pub kept : is_gone d.gone to ≡ false

-- the chain of the branch at a kept place has an end: the label that is mentioned at this other one
pub record EndsAt (d : Drafted) (p last : ℕ) : Type 0 where
  pub label : Name
  pub goes : GoesToEnd (code_of (lines_now d)) (rank d.gone p) label
  pub named : name_in (stands d last) ≡ Some label
  pub within : last < length d.gone
  pub kept : is_gone d.gone last ≡ false

-- the branch at a kept place surely may go to a label, whichever instructions go: it stays within reach, and the branch's own line is short
pub record MayAim (base : ℕ) (d : Drafted) (p : ℕ) (name : Name) : Type 0 where
  pub i : Instr
  pub is : instr_in (stands d p) ≡ Some i
  pub reach : IsSteadyTo base d.given p i name
  pub short : line_length (line_mentioning i (Some (record { name = name; plus = 0 }))) ≤ longest_line

-- where the branch at a kept place goes: to the next one, or to a label whose chain has an end, or neither
abbrev pub IsWay : Way → Drafted → ℕ → Type 0
IsWay way.Next d p = GoesToNext (code_of (lines_now d)) (rank d.gone p)
IsWay (way.End last) d p = (GoesToNext (code_of (lines_now d)) (rank d.gone p) → ⊥) × EndsAt d p last
IsWay way.Other d p = (GoesToNext (code_of (lines_now d)) (rank d.gone p) → ⊥) × (HasEnd (code_of (lines_now d)) (rank d.gone p) → ⊥)

-- ---- changes ----

-- no change is possible at a place of lines
abbrev pub NoneAt : ℕ → List ListingLine → ℕ → Type 0
NoneAt base ls r = (o : Cause) → IsPossible (setting base) (change r o) ls → ⊥

-- a change is made at a place of lines, for the cause that is tried soonest of those for which one is possible there
pub record ChangesSoonest (base : ℕ) (ls new : List ListingLine) (r : ℕ) : Type 0 where
  pub cause : Cause
  pub has : HasCause (code_of ls) r cause
  pub soonest : (o : Cause) → IsPossible (setting base) (change r o) ls → turn cause ≤ turn o
  pub lines : new ≡ lines_by (setting base) r cause ls

-- what became of a draft at a kept place whose branch doesn't go to the next, and whose chain has an end
abbrev pub IsRedirected : Redirected → ℕ → Drafted → ℕ → Drafted → Type 0
IsRedirected redirected.Refused base d p new = (new ≡ d) × ((label : Name) → IsPossible (setting base) (change (rank d.gone p) (ToEnd label)) (lines_now d) → ⊥)
IsRedirected redirected.Made base d p new = ChangesSoonest base (lines_now d) (lines_now new) (rank d.gone p)
IsRedirected redirected.Unsure base d p new = new ≡ d

-- what became of a draft at a place, if that is kept
abbrev pub IsOutcomeAt : PlaceOutcome → ℕ → Drafted → ℕ → Drafted → Type 0
IsOutcomeAt outcome.Nothing base d p new = (new ≡ d) × (is_gone d.gone p ≡ false → NoneAt base (lines_now d) (rank d.gone p))
IsOutcomeAt outcome.Made base d p new = ChangesSoonest base (lines_now d) (lines_now new) (rank d.gone p)
IsOutcomeAt outcome.Unsure base d p new = new ≡ d

-- and of its lines at the first place at which a change is possible
abbrev pub IsOutcome : PlaceOutcome → ℕ → List ListingLine → List ListingLine → Type 0
IsOutcome outcome.Nothing base ls new = (new ≡ ls) × ((r : ℕ) → NoneAt base ls r)
IsOutcome outcome.Made base ls new = (r : ℕ) × ChangesSoonest base ls new r × ((k : ℕ) → k < r → NoneAt base ls k)
IsOutcome outcome.Unsure base ls new = new ≡ ls
