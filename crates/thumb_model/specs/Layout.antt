-- The layout: addresses as sums of sizes and paddings, where names lie, and the first line that cannot be laid out.
use Rattle.std.specs.Prelude.{◌≡◌, ℕ, ◌+◌, ◌-◌, ◌*◌, ◌/◌, ◌%◌, ◌==◌, ◌&&◌, ◌||◌, nat_le, nat_lt, Bool, false, List, [], ◌∷◌, length, Option, Some, None, ℤ, pos, negsuc, if◌then◌else◌}
use Rattle.std.specs.Str.{bytes_eq}
use Rattle.thumb_instr.specs.declared.instr.Instr.{Instr}
use Rattle.thumb_instr.specs.declared.instr.Instr.TheVariants as instr
use Rattle.thumb_model.specs.Listing.{Name, Mention, Statement, Nothing, Instruction, Words, Aligns, Sets, ListingLine}

-- how many bytes an instruction has
abbrev pub instr_size : Instr → ℕ
instr_size (instr.Call d) = 4
instr_size (instr.Barrier b) = 4
instr_size (instr.ReadSpecial d s) = 4
instr_size (instr.WriteMask m) = 4
instr_size i = 2

-- what an alignment to a multiple of size pads at an address: nothing where more than `most` bytes are needed
abbrev pub padding : ℕ → ℕ → ℕ → ℕ
padding size most at = if nat_le ((size - at % size) % size) most then (size - at % size) % size else 0

abbrev pub size_at : Statement → ℕ → ℕ
size_at Nothing at = 0
size_at (Instruction i mention) at = instr_size i
size_at (Words vs) at = 4 * length vs
size_at (Aligns size most) at = padding size most at
size_at (Sets name address) at = 0

-- where lines begun at an address end
abbrev pub end_of : ℕ → List ListingLine → ℕ
end_of at [] = at
end_of at (l ∷ ls) = end_of (at + size_at l.statement at) ls

-- why a line cannot be laid out: a distance outside the encoding's range, or a literal whose address isn't a multiple of 4
pub data Fault : Type 0 where
  Range : (distance : ℤ) → Fault
  Align : (address : ℕ) → Fault

-- ---- where names lie ----

-- whether the name is among these
abbrev pub is_among : Name → List Name → Bool
is_among name [] = false
is_among name (n ∷ ns) = bytes_eq name n || is_among name ns

-- a label's address is where it stands: before a padding of its own line
abbrev pub label_address : Name → ℕ → List ListingLine → Option ℕ
label_address name at [] = None
label_address name at (l ∷ ls) = if is_among name l.names then Some at else label_address name (at + size_at l.statement at) ls

-- the address that is set for a name
abbrev pub set_in : Name → Statement → Option ℕ → Option ℕ
set_in name Nothing rest = rest
set_in name (Instruction i mention) rest = rest
set_in name (Words vs) rest = rest
set_in name (Aligns size most) rest = rest
set_in name (Sets other address) rest = if bytes_eq name other then Some address else rest

abbrev pub set_address : Name → List ListingLine → Option ℕ
set_address name [] = None
set_address name (l ∷ ls) = set_in name l.statement (set_address name ls)

-- where a branch to a name goes: to its label, or to the address that is set for it, with bit 0 cleared
abbrev pub cleared : Option ℕ → Option ℕ
cleared None = None
cleared (Some a) = Some (a / 2 * 2)

abbrev pub or_else : Option ℕ → Option ℕ → Option ℕ
or_else None b = b
or_else (Some a) b = Some a

abbrev pub lies_in : ℕ → List ListingLine → Name → Option ℕ
lies_in base all name = or_else (label_address name base all) (cleared (set_address name all))

-- ---- faults ----

-- what distances count from: a branch's address plus 4, and a literal load's address plus 4, rounded down to a multiple of 4
abbrev pub branch_base : ℕ → ℕ
branch_base at = at + 4

abbrev pub literal_base : ℕ → ℕ
literal_base at = (at + 4) / 4 * 4

-- the signed difference: to minus from
abbrev pub less : ℕ → ℕ → ℤ
less to from = if nat_le from to then pos (to - from) else negsuc (from - to - 1)

-- how far a branch goes
abbrev pub distance : ℕ → ℕ → ℤ
distance at to = less to (branch_base at)

-- a branch's distance is at least - 2 * half and below 2 * half
abbrev pub branch_fault : ℕ → ℕ → Option ℕ → Option Fault
branch_fault half at None = None
branch_fault half at (Some to) =
    if nat_lt to (branch_base at + 2 * half) && nat_le (branch_base at) (to + 2 * half) then None else Some (Range (distance at to))

-- a literal lies at a multiple of 4, and 0 to 1020 past the base
abbrev pub literal_fault : ℕ → Option ℕ → ℕ → Option Fault
literal_fault at None plus = None
literal_fault at (Some to) plus =
    if (to + plus) % 4 == 0 then (if nat_le (literal_base at) (to + plus) && nat_le (to + plus) (literal_base at + 1020) then None else Some (Range (less (to + plus) (literal_base at))))
    else Some (Align (to + plus))

-- what is wrong with an instruction at an address, given where names lie
abbrev pub aim_fault : ℕ → Instr → Option ℕ → ℕ → Option Fault
aim_fault at (instr.Literal t d) to plus = literal_fault at to plus
aim_fault at (instr.Address t d) to plus = literal_fault at to plus
aim_fault at (instr.BranchIf c d) to plus = branch_fault 128 at to
aim_fault at (instr.Branch d) to plus = branch_fault 1024 at to
aim_fault at (instr.Call d) to plus = branch_fault 8388608 at to
aim_fault at i to plus = None

abbrev pub instr_fault : (Name → Option ℕ) → ℕ → Instr → Option Mention → Option Fault
instr_fault lies at i None = None
instr_fault lies at i (Some m) = aim_fault at i (lies m.name) m.plus

abbrev pub fault_at : (Name → Option ℕ) → ℕ → Statement → Option Fault
fault_at lies at Nothing = None
fault_at lies at (Instruction i mention) = instr_fault lies at i mention
fault_at lies at (Words vs) = None
fault_at lies at (Aligns size most) = None
fault_at lies at (Sets name address) = None

-- what is found at line n where something is, else what is found first in the lines after it
abbrev pub or_first : {A : Type 0} → ℕ → Option A → Option (ℕ × A) → Option (ℕ × A)
or_first n None rest = rest
or_first n (Some f) rest = Some (n, f)

-- the first line with a fault, by its number
abbrev pub faults_from : (Name → Option ℕ) → ℕ → ℕ → List ListingLine → Option (ℕ × Fault)
faults_from lies n at [] = None
faults_from lies n at (l ∷ ls) = or_first n (fault_at lies at l.statement) (faults_from lies (n + 1) (at + size_at l.statement at) ls)

-- no line has a fault
abbrev pub Layable : ℕ → List ListingLine → Type 0
Layable base ls = faults_from (lies_in base ls) 1 base ls ≡ None
