-- Places that are due: all those at which a change has its cause, and what else is known of lines between changes.
use Rattle.std.specs.Prelude.{◌≡◌, ℕ, zero, suc, ◌+◌, ◌<◌, ◌≤◌, ◌&&◌, ◌||◌, not, Bool, true, false, List, length, Option, Some, None, slice_get, slice_set}
use Rattle.thumb_instr.specs.declared.instr.Instr.{Instr}
use Rattle.thumb_model.specs.Layout.{Layable}
use Rattle.thumb_model.specs.Listing.{Name, Place, Op, Word, ListingLine, Code, code_of, is_call_instr}
use Rattle.code_flow.specs.Marks.{AreMarks}
use Rattle.label_layout.specs.Addresses.{Addresses, AreAddresses}
use Rattle.listing_draft.specs.Drafted.{instr_in}
use Rattle.flow_tidy.specs.Tidying.{is_always, Setting, Cause, is_branch, lines_by, GoesToEnd, HasCause, IsFirst, NonePossible}
use Rattle.flow_tidy.specs.declared.found.Found.{Found}
use Rattle.flow_tidy.specs.Made.{IsMovedTo}

-- some change has its cause at the place
pub record IsCaused (code : Code) (p : ℕ) : Type 0 where
  pub cause : Cause
  pub is : HasCause code p cause

-- a branch stands there whose chain has an end
pub record HasEnd (code : Code) (p : ℕ) : Type 0 where
  pub label : Name
  pub goes : GoesToEnd code p label

-- marks of all places, among which each is marked where a change has its cause
pub record AreDue (code : Code) (due : List Bool) : Type 0 where
  pub len : length due ≡ length code.places
  pub each : (p : ℕ) → IsCaused code p → slice_get due p ≡ Some true

-- whether a change may have its cause where this stands, which is reached or not: a branch, or an instruction that isn't reached and is no call
abbrev pub may_change : Option Place → Bool → Bool
may_change None reached = false
may_change (Some (Word v)) reached = false
may_change (Some (Op i mention)) reached = is_branch i || not (reached || is_call_instr i)

-- whether the instruction that stands somewhere, if one does, is a branch with a condition
abbrev pub is_branch_if : Option Instr → Bool
is_branch_if None = false
is_branch_if (Some i) = is_branch i && not (is_always i)

-- whether it is one without
abbrev pub is_branch_always : Option Instr → Bool
is_branch_always None = false
is_branch_always (Some i) = is_always i

-- whether a branch with a condition stands at a place, and one without at the next: once the first is removed, chains that ended at its labels go on
abbrev pub lets_on : Code → ℕ → Bool
lets_on code p = is_branch_if (instr_in (slice_get code.places p)) && is_branch_always (instr_in (slice_get code.places (p + 1)))

-- no place before this one is marked
pub record IsLeast (due : List Bool) (place : ℕ) : Type 0 where
  pub within : place ≤ length due
  pub free : (k : ℕ) → k < place → slice_get due k ≡ Some true → ⊥

-- the marks with that of the place before this one set
abbrev pub before_is_due : ℕ → List Bool → List Bool
before_is_due zero due = due
before_is_due (suc p) due = slice_set due p true

-- what is known of lines while they are tidied: where they lie, what is reached, and what is due
pub record IsKnown (ls : List ListingLine) (addresses : Addresses) (marks dues : List Bool) : Type 0 where
  pub laid : AreAddresses ls addresses
  pub layable : Layable addresses.base ls
  pub reached : AreMarks (code_of ls) marks
  pub due : AreDue (code_of ls) dues

-- the lines after the first change, which is made at this place
pub record IsNextAt (s : Setting) (p : ℕ) (ls new : List ListingLine) : Type 0 where
  pub cause : Cause
  pub first : IsFirst s (record { place = p; cause = cause }) ls
  pub lines : new ≡ lines_by s p cause ls

-- the lines after the first change with its place, where one is possible
abbrev pub IsFoundNext : Setting → List ListingLine → Option Found → Type 0
IsFoundNext s ls None = NonePossible s ls
IsFoundNext s ls (Some found) = IsNextAt s found.place ls found.changed.listing × IsMovedTo s.base found.changed.listing found.changed.moved
