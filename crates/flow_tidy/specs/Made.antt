-- What each step of tidying finds or makes, as the contracts of the code say it.
use Rattle.std.specs.Prelude.{◌≡◌, ℕ, ◌≤◌, ◌==◌, not, Bool, List, ◌++◌, length, Option, Some, None, is_some, option_and_then, slice_get, if◌then◌else◌}
use Rattle.thumb_model.specs.Listing.{Name, Place, Op, Word, ListingLine, Code, place_of}
use Rattle.thumb_model.specs.Layout.{Layable}
use Rattle.label_layout.specs.Addresses.{Addresses, AreAddresses}
use Rattle.flow_tidy.specs.declared.found.Changed.{Changed}
use Rattle.flow_tidy.specs.Tidying.{is_always, IsEnd, Setting, Cause, Change, is_branch, line_length, lines_by, rank, IsPossible, AreTidied}

-- ---- branches ----

-- the label that a branch goes to
abbrev pub label_of_branch : Option Place → Option Name
label_of_branch None = None
label_of_branch (Some (Word v)) = None
label_of_branch (Some (Op i None)) = None
label_of_branch (Some (Op i (Some m))) = if is_branch i then Some m.name else None

-- and the label that a branch without a condition goes to
abbrev pub label_of_always : Option Place → Option Name
label_of_always None = None
label_of_always (Some (Word v)) = None
label_of_always (Some (Op i None)) = None
label_of_always (Some (Op i (Some m))) = if is_always i then Some m.name else None

abbrev pub if_code : Code → Name → Option Name
if_code code name = if is_some (place_of code name) then Some name else None

-- the label that is hopped to from a label
abbrev pub hop_of : Code → Name → Option Name
hop_of code from = option_and_then (if_code code) (option_and_then (λ q. label_of_always (slice_get code.places q)) (place_of code from))

-- the end of the chain that begins at a label
abbrev pub IsEndOf : Code → Name → Option Name → Type 0
IsEndOf code from None = (label : Name) → IsEnd code from label → ⊥
IsEndOf code from (Some label) = IsEnd code from label

-- ---- lines ----

-- a byte of a line before its newline
abbrev pub is_no_newline : ℕ → Bool
is_no_newline b = not (b == 10)

-- no line is longer
abbrev pub AreShort : ℕ → List ListingLine → Type 0
AreShort longest ls = (k : ℕ) (l : ListingLine) → slice_get ls k ≡ Some l → line_length l.text ≤ longest

-- there are neither too many lines nor too long ones
abbrev pub AreWithin : ℕ → ℕ → List ListingLine → Type 0
AreWithin most longest ls = (length ls ≤ most) × AreShort longest ls

-- the addresses of lines, if they are given
abbrev pub IsMovedTo : ℕ → List ListingLine → Option Addresses → Type 0
IsMovedTo base ls None = Unit {0}
IsMovedTo base ls (Some a) = AreAddresses ls a × (a.base ≡ base)

-- these lines, with their addresses if these are given
abbrev pub AreLines : ℕ → List ListingLine → Changed → Type 0
AreLines base ls new = (new.listing ≡ ls) × IsMovedTo base ls new.moved

-- the lines themselves where they are within the limits, and else nothing
abbrev pub IsWithin : ℕ → ℕ → List ListingLine → Option Changed → Type 0
IsWithin most longest ls None = AreWithin most longest ls → ⊥
IsWithin most longest ls (Some new) = AreWithin most longest ls × (new.listing ≡ ls) × (new.moved ≡ None)

-- lines that can be laid out and are within the limits
pub record IsFit (s : Setting) (ls : List ListingLine) : Type 0 where
  pub layable : Layable s.base ls
  pub few : length ls ≤ s.most_lines
  pub short : AreShort s.longest_line ls

-- the lines themselves where they are fit, and else nothing
abbrev pub IsAccepted : Setting → List ListingLine → Option Changed → Type 0
IsAccepted s ls None = IsFit s ls → ⊥
IsAccepted s ls (Some new) = IsFit s ls × AreLines s.base ls new

-- ---- changes ----

abbrev pub change : ℕ → Cause → Change
change p cause = record { place = p; cause = cause }

-- the lines after the change of this rank at a place, where one is possible
abbrev pub IsMade : Setting → ℕ → ℕ → List ListingLine → Option Changed → Type 0
IsMade s p r ls None = (o : Cause) → rank o ≡ r → IsPossible s (change p o) ls → ⊥
IsMade s p r ls (Some new) = (c : Cause) × (rank c ≡ r) × IsPossible s (change p c) ls × AreLines s.base (lines_by s p c ls) new

-- the lines after the change at a place that is tried soonest, where one is possible
abbrev pub IsMadeAt : Setting → ℕ → List ListingLine → Option Changed → Type 0
IsMadeAt s p ls None = (o : Cause) → IsPossible s (change p o) ls → ⊥
IsMadeAt s p ls (Some new) = (c : Cause) × IsPossible s (change p c) ls × ((o : Cause) → IsPossible s (change p o) ls → rank c ≤ rank o) × AreLines s.base (lines_by s p c ls) new

-- `count` changes, each the first that is possible, lead from the given lines to these
pub record AreMadeBy (s : Setting) (given ls : List ListingLine) (count : ℕ) : Type 0 where
  pub changes : List Change
  pub counted : count ≡ length changes
  pub lead : (more : List Change) (new : List ListingLine) → AreTidied s ls more new → AreTidied s given (changes ++ more) new
