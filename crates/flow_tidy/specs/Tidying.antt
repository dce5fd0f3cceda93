-- What tidying is: chains of branches, the changes with their causes, and tidying by the first change that is possible until none is.
use Rattle.std.specs.Prelude.{◌≡◌, ℕ, zero, suc, Bool, true, false, Some, IsSome, slice_get, ◌+◌, ◌≤◌, ◌==◌, List, [], ◌∷◌, length, Option, None, if◌then◌else◌, ◌*◌}
use Rattle.thumb_instr.specs.declared.instr.Instr.{Instr}
use Rattle.thumb_instr.specs.declared.instr.Instr.TheVariants as instr
use Rattle.thumb_model.specs.Listing.{Name, Mention, Op, Code, place_of, ListingLine, code_of, is_call_instr, places_of}
use Rattle.thumb_model.specs.Steps.{aim_of}
use Rattle.thumb_model.specs.Layout.{Layable}
use Rattle.thumb_model.specs.Replaced.{replaced_lines}
use Rattle.listing_parser.specs.Targets.{aimed_lines}
use Rattle.thumb_model.specs.Flow.{Reached}
use Rattle.label_layout.specs.Refusals.{fault_of, first_fault}
use Rattle.label_layout.specs.declared.errors.LayoutError.{LayoutError}
use Rattle.label_layout.specs.declared.errors.LayoutError.TheVariants as layout
use Rattle.listing_parser.specs.Grammar.{most_lines, longest_line}
use Rattle.listing_parser.specs.Parsing.{line_mentioning}
use Rattle.flow_tidy.specs.declared.errors.TidyError.{TidyError}
use Rattle.flow_tidy.specs.declared.errors.TidyError.TheVariants as error

-- Chains of branches: where a branch to a branch to a branch ends.

-- B without a condition
abbrev pub is_always : Instr → Bool
is_always (instr.Branch d) = true
is_always i = false

-- at the code label `from` an instruction `b to` stands, and `to` is a code label too
pub record Hops (code : Code) (from to : Name) : Type 0 where
  pub place : ℕ
  pub i : Instr
  pub mention : Mention
  pub labelled : place_of code from ≡ Some place
  pub stands : slice_get code.places place ≡ Some (Op i (Some mention))
  pub always : is_always i ≡ true
  pub named : mention.name ≡ to
  pub code_label : IsSome (place_of code to)

-- n hops lead from a label to a label
abbrev pub HopsBy : Code → ℕ → Name → Name → Type 0
HopsBy code zero from to = from ≡ to
HopsBy code (suc n) from to = (via : Name) × Hops code from via × HopsBy code n via to

-- the end of the chain that begins at a label: the last label that is hopped to, from which no hop leads on. A label without a hop has none, and nor has a cycle, where a hop always leads on
pub record IsEnd (code : Code) (from to : Name) : Type 0 where
  pub more : ℕ
  pub leads : HopsBy code (suc more) from to
  pub stops : (next : Name) → Hops code to next → ⊥

-- Tidying a listing's lines: branches to the next place and instructions that nothing reaches are removed, and branches to branches go to their chain's end.

-- what tidying is given: the base, how many lines a listing may have and how many bytes a line, and the bytes of an instruction's own line
pub record Setting : Type 0 where
  pub base : ℕ
  pub most_lines : ℕ
  pub longest_line : ℕ
  pub write : Instr → Option Mention → List ℕ

-- why a place is changed: its branch goes to the next place, its branch has a chain whose end is this label, or nothing reaches it
pub data Cause : Type 0 where
  ToNext : Cause
  ToEnd : (label : Name) → Cause
  Idle : Cause

pub record Change : Type 0 where
  pub place : ℕ
  pub cause : Cause

-- ---- lines ----

-- the lines without the instruction at place p: its labels stay
abbrev pub lines_without : Setting → ℕ → List ListingLine → List ListingLine
lines_without s p ls = replaced_lines (λ i. s.write i None) p 1 [] ls

abbrev pub lines_by : Setting → ℕ → Cause → List ListingLine → List ListingLine
lines_by s p ToNext ls = lines_without s p ls
lines_by s p (ToEnd label) ls = aimed_lines s.write p label ls
lines_by s p Idle ls = lines_without s p ls

-- the lines after a change
abbrev pub lines_after : Setting → Change → List ListingLine → List ListingLine
lines_after s c ls = lines_by s c.place c.cause ls

-- ---- where a change is possible ----

-- B with a condition or without
abbrev pub is_branch : Instr → Bool
is_branch (instr.BranchIf c d) = true
is_branch i = is_always i

-- a branch to the next place
pub record GoesToNext (code : Code) (p : ℕ) : Type 0 where
  pub i : Instr
  pub mention : Option Mention
  pub stands : slice_get code.places p ≡ Some (Op i mention)
  pub branch : is_branch i ≡ true
  pub next : aim_of code mention ≡ Some (p + 1)

-- a branch to a label whose chain has this end
pub record GoesToEnd (code : Code) (p : ℕ) (label : Name) : Type 0 where
  pub i : Instr
  pub mention : Mention
  pub stands : slice_get code.places p ≡ Some (Op i (Some mention))
  pub branch : is_branch i ≡ true
  pub end : IsEnd code mention.name label

-- an instruction that isn't reached, and is no call: calls stay, so that the return points keep their numbers
pub record IsIdle (code : Code) (p : ℕ) : Type 0 where
  pub i : Instr
  pub mention : Option Mention
  pub stands : slice_get code.places p ≡ Some (Op i mention)
  pub no_call : is_call_instr i ≡ false
  pub unreached : Reached code p → ⊥

abbrev pub HasCause : Code → ℕ → Cause → Type 0
HasCause code p ToNext = GoesToNext code p
HasCause code p (ToEnd label) = GoesToEnd code p label
HasCause code p Idle = IsIdle code p

-- how many bytes a line has without its newline
abbrev pub line_length : List ℕ → ℕ
line_length [] = 0
line_length (b ∷ bs) = if b == 10 then 0 else line_length bs + 1

-- the change has its cause; afterwards each code label is one, the lines can be laid out, and they are within the limits
pub record IsPossible (s : Setting) (c : Change) (ls : List ListingLine) : Type 0 where
  pub cause : HasCause (code_of ls) c.place c.cause
  pub labels_stay : (label : Name) → IsSome (place_of (code_of ls) label) → IsSome (place_of (code_of (lines_after s c ls)) label)
  pub layable : Layable s.base (lines_after s c ls)
  pub few : length (lines_after s c ls) ≤ s.most_lines
  pub short : (k : ℕ) (l : ListingLine) → slice_get (lines_after s c ls) k ≡ Some l → line_length l.text ≤ s.longest_line

-- ---- tidying ----

-- the order in which causes are tried at a place
abbrev pub rank : Cause → ℕ
rank ToNext = 0
rank (ToEnd label) = 1
rank Idle = 2

-- no other change comes before: at a lesser place, or for a cause that is tried sooner
pub record IsFirst (s : Setting) (c : Change) (ls : List ListingLine) : Type 0 where
  pub possible : IsPossible s c ls
  pub least_place : (o : Change) → IsPossible s o ls → c.place ≤ o.place
  pub soonest : (o : Change) → IsPossible s o ls → o.place ≡ c.place → rank c.cause ≤ rank o.cause

-- no change is possible any more
abbrev pub NonePossible : Setting → List ListingLine → Type 0
NonePossible s ls = (o : Change) → IsPossible s o ls → ⊥

-- these changes, each the first that is possible, lead to lines in which none is
abbrev pub AreTidied : Setting → List ListingLine → List Change → List ListingLine → Type 0
AreTidied s ls [] new = NonePossible s ls × (new ≡ ls)
AreTidied s ls (c ∷ cs) new = IsFirst s c ls × AreTidied s (lines_after s c ls) cs new

-- each change was possible in the lines as they then were
abbrev pub AllPossible : Setting → List ListingLine → List Change → Type 0
AllPossible s ls [] = Unit {0}
AllPossible s ls (c ∷ cs) = IsPossible s c ls × AllPossible s (lines_after s c ls) cs

-- What tidying a listing gives, as the code holds it.

-- tidying for an image that begins at the base: a listing has as many lines as it may have at most, a line as many bytes, and an instruction's own line is a tab, its canonical text with what it mentions and a newline
abbrev pub setting : ℕ → Setting
setting base = record { base = base; most_lines = most_lines; longest_line = longest_line; write = line_mentioning }

-- these lines are the given ones tidied, by `count` changes
pub record AreTidiedBy (base : ℕ) (given new : List ListingLine) (count : ℕ) : Type 0 where
  pub changes : List Change
  pub are : AreTidied (setting base) given changes new
  pub counted : count ≡ length changes

-- why the given lines are refused: the first of them that cannot be laid out, by what its first fault is
abbrev pub IsRefusal : ℕ → List ListingLine → TidyError → Type 0
IsRefusal base lines (error.Line number k) = first_fault base lines ≡ Some (number, fault_of k)
IsRefusal base lines error.Memory = Unit {0}

-- how many visits of places there are at most in the search for what is reached, with a search at first and one after each change
abbrev pub tidying_cost : List ListingLine → ℕ → ℕ
tidying_cost lines changes = (changes + 1) * (length (places_of lines) * (length (places_of lines) + 2))

-- a layout's error as one of tidying
abbrev pub of_layout : LayoutError → TidyError
of_layout (layout.Line number k) = error.Line number k
of_layout layout.Memory = error.Memory
