-- Listings whose mentions stay within reach, whichever of their instructions are replaced by runs that are no longer.
use Rattle.std.specs.Prelude.{◌≡◌, ℕ, ◌+◌, ◌-◌, ◌*◌, ◌%◌, ◌^◌, ◌≤◌, ◌==◌, ◌&&◌, nat_le, nat_lt, min, is_none, Bool, true, List, [], ◌∷◌, length, Option, Some, None, if◌then◌else◌}
use Rattle.thumb_instr.specs.declared.instr.Instr.{Instr}
use Rattle.thumb_instr.specs.declared.instr.Instr.TheVariants as instr
use Rattle.thumb_model.specs.Listing.{Name, Mention, Statement, Nothing, Instruction, Words, Aligns, Sets, ListingLine}
use Rattle.thumb_model.specs.Layout.{instr_size, is_among, set_address, cleared, branch_fault}
use Rattle.steady_layout.specs.declared.starts.Start.{Start}

-- ---- the widest layout ----

-- the most bytes that a statement takes, wherever it lies
abbrev pub most_of : Statement → ℕ
most_of Nothing = 0
most_of (Instruction i mention) = instr_size i
most_of (Words vs) = 4 * length vs
most_of (Aligns size most) = min most (size - 1)
most_of (Sets name address) = 0

-- whether an alignment ends at a multiple of 4 wherever it lies: its size is such a multiple, and it may pad whatever is needed
abbrev pub aligns_surely : ℕ → ℕ → Bool
aligns_surely size most = nat_lt 0 size && (size % 4 == 0 && nat_le (size - 1) most)

-- whether a statement surely ends at a multiple of 4, given whether it surely begins at one
abbrev pub ends_aligned : Bool → Statement → Bool
ends_aligned before Nothing = before
ends_aligned before (Instruction i mention) = before && instr_size i == 4
ends_aligned before (Words vs) = before
ends_aligned before (Aligns size most) = aligns_surely size most
ends_aligned before (Sets name address) = before

-- lines laid out one after the other, each with the most bytes that it may take
abbrev pub behind : Start → Statement → Start
behind here s = record { at = here.at + most_of s; aligned = ends_aligned here.aligned s }

abbrev pub widest_end : Start → List ListingLine → Start
widest_end here [] = here
widest_end here (l ∷ ls) = widest_end (behind here l.statement) ls

abbrev pub label_start : Name → Start → List ListingLine → Option Start
label_start name here [] = None
label_start name here (l ∷ ls) = if is_among name l.names then Some here else label_start name (behind here l.statement) ls

-- the base, a multiple of 4
abbrev pub first : ℕ → Start
first base = record { at = base; aligned = true }

-- ---- mentions that stay within reach ----

-- a branch reaches where it goes, if anywhere
abbrev pub reaches : ℕ → ℕ → Option ℕ → Bool
reaches half at to = is_none (branch_fault half at to)

-- a label can only come nearer to its branch; an address that is set stays while the branch moves towards the base, so both ends of its move are tried
abbrev pub steady_branch : ℕ → ℕ → Start → Option Start → Option ℕ → Bool
steady_branch half base here (Some label) set = reaches half here.at (Some label.at)
steady_branch half base here None set = reaches half base set && reaches half here.at set

-- a literal lies after its instruction, surely at a multiple of 4, at most 1020 bytes from the rounded pc, which is at least the instruction's address and 2
abbrev pub steady_literal : Start → Option Start → Option ℕ → ℕ → Bool
steady_literal here (Some label) set plus = (label.aligned && plus % 4 == 0) && (nat_lt here.at label.at && nat_le (label.at + plus) (here.at + 1022))
steady_literal here None set plus = is_none set

-- what an instruction mentions: a label, an address that is set, or neither
abbrev pub steady_aim : ℕ → Start → Instr → Option Start → Option ℕ → ℕ → Bool
steady_aim base here (instr.Literal t d) label set plus = steady_literal here label set plus
steady_aim base here (instr.Address t d) label set plus = steady_literal here label set plus
steady_aim base here (instr.BranchIf c d) label set plus = steady_branch 128 base here label set
steady_aim base here (instr.Branch d) label set plus = steady_branch 1024 base here label set
steady_aim base here (instr.Call d) label set plus = steady_branch 8388608 base here label set
steady_aim base here i label set plus = true

abbrev pub steady_instr : (Name → Option Start) → (Name → Option ℕ) → ℕ → Start → Instr → Option Mention → Bool
steady_instr labels sets base here i None = true
steady_instr labels sets base here i (Some m) = steady_aim base here i (labels m.name) (sets m.name) m.plus

abbrev pub steady_at : (Name → Option Start) → (Name → Option ℕ) → ℕ → Start → Statement → Bool
steady_at labels sets base here Nothing = true
steady_at labels sets base here (Instruction i mention) = steady_instr labels sets base here i mention
steady_at labels sets base here (Words vs) = true
steady_at labels sets base here (Aligns size most) = true
steady_at labels sets base here (Sets name address) = true

abbrev pub all_steady : (Name → Option Start) → (Name → Option ℕ) → ℕ → Start → List ListingLine → Bool
all_steady labels sets base here [] = true
all_steady labels sets base here (l ∷ ls) = steady_at labels sets base here l.statement && all_steady labels sets base (behind here l.statement) ls

-- where the names of lines lie in the widest layout, and the addresses that are set for names, with bit 0 cleared
abbrev pub labels_in : ℕ → List ListingLine → Name → Option Start
labels_in base ls name = label_start name (first base) ls

abbrev pub sets_in : List ListingLine → Name → Option ℕ
sets_in ls name = cleared (set_address name ls)

-- the widest layout ends within the Code region (0x00000000 to 0x1FFFFFFF), and each mention in it stays within reach
pub record IsSteady (base : ℕ) (ls : List ListingLine) : Type 0 where
  pub in_code : (widest_end (first base) ls).at ≤ 2 ^ 29
  pub steady : all_steady (labels_in base ls) (sets_in ls) base (first base) ls ≡ true
