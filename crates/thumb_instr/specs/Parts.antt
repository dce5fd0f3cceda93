-- Instructions as their kind with their registers and numbers, in the order of the canonical text, and which such combinations are instructions.
use Rattle.std.specs.Prelude.{ℕ, ◌^◌, ◌/◌, ◌%◌, ◌==◌, ◌&&◌, ◌||◌, not, Bool, true, Option, Some, None, if◌then◌else◌, nat_lt, nat_le}
use Rattle.thumb_instr.specs.declared.instr.Instr.{Instr}
use Rattle.thumb_instr.specs.declared.instr.Instr.TheVariants as instr
use Rattle.thumb_instr.specs.declared.kind.Kind.{Kind}
use Rattle.thumb_instr.specs.declared.kind.Kind.TheVariants as kind
use Rattle.thumb_instr.specs.declared.kind.Parts.{Parts}
use Rattle.thumb_instr.specs.declared.role.Class.{Class}
use Rattle.thumb_instr.specs.declared.role.Class.TheVariants as class
use Rattle.thumb_instr.specs.declared.role.Role.{Role}
use Rattle.thumb_instr.specs.declared.role.Role.TheVariants.{Register, Number, List, Distance, Nothing}
use Rattle.thumb_instr.specs.declared.role.Operands.{Operands}
use Rattle.thumb_instr.specs.Roles.{roles}

-- the parts of a kind; 0 stands for a number that the kind doesn't have
abbrev pub of : Kind → ℕ → ℕ → ℕ → Parts
of k a b c = record { kind = k; first = a; second = b; third = c }

-- the kind and the numbers of an instruction
abbrev pub parts_of : Instr → Parts
parts_of (instr.Mov d m) = of kind.Mov d.number m.number 0
parts_of (instr.Three s d n m) = of (kind.Three s) d.number n.number m.number
parts_of (instr.Two o d m) = of (kind.Two o) d.number m.number 0
parts_of (instr.Bx m) = of kind.Bx m.number 0 0
parts_of (instr.Movs d m) = of kind.Movs d.number m.number 0
parts_of (instr.ShiftLeft d m i) = of kind.ShiftLeft d.number m.number i.number
parts_of (instr.ShiftRight s d m i) = of (kind.ShiftRight s) d.number m.number i.number
parts_of (instr.ThreeNumber s d n i) = of (kind.ThreeNumber s) d.number n.number i.number
parts_of (instr.TwoNumber o d i) = of (kind.TwoNumber o) d.number i.number 0
parts_of (instr.Add r) = of kind.Add r.target.number r.source.number 0
parts_of (instr.Compare r) = of kind.Compare r.left.number r.right.number 0
parts_of (instr.Blx m) = of kind.Blx m.number 0 0
parts_of (instr.Literal t i) = of kind.Literal t.number i.number 0
parts_of (instr.Indexed a t n m) = of (kind.Indexed a) t.number n.number m.number
parts_of (instr.Offset a t n i) = of (kind.Offset a) t.number n.number i.number
parts_of (instr.Stack a t i) = of (kind.Stack a) t.number i.number 0
parts_of (instr.Address d i) = of kind.Address d.number i.number 0
parts_of (instr.StackAddress d i) = of kind.StackAddress d.number i.number 0
parts_of (instr.StackMove s i) = of (kind.StackMove s) i.number 0 0
parts_of (instr.Extend e d m) = of (kind.Extend e) d.number m.number 0
parts_of (instr.Reverse r d m) = of (kind.Reverse r) d.number m.number 0
parts_of (instr.Push l) = of kind.Push l.number 0 0
parts_of (instr.Pop l) = of kind.Pop l.number 0 0
parts_of (instr.StoreMany s) = of kind.StoreMany s.base.number s.list.number 0
parts_of (instr.LoadMany n l) = of kind.LoadMany n.number l.number 0
parts_of (instr.Breakpoint i) = of kind.Breakpoint i.number 0 0
parts_of (instr.Service i) = of kind.Service i.number 0 0
parts_of (instr.Hint h) = of (kind.Hint h) 0 0 0
parts_of (instr.ChangeState i) = of (kind.ChangeState i) 0 0 0
parts_of (instr.BranchIf c i) = of (kind.BranchIf c) i.field 0 0
parts_of (instr.Branch i) = of kind.Branch i.field 0 0
parts_of (instr.Call i) = of kind.Call i.field 0 0
parts_of (instr.Barrier b) = of (kind.Barrier b) 0 0 0
parts_of (instr.ReadSpecial d s) = of (kind.ReadSpecial s) d.number 0 0
parts_of (instr.WriteMask m) = of kind.WriteMask m.number 0 0

abbrev pub is_within : ℕ → ℕ → ℕ → Bool
is_within least end n = nat_le least n && nat_lt n end

-- the three classes: r0 to r7; r0 to r12, sp and lr; the same without sp
abbrev pub is_low : ℕ → Bool
is_low n = is_within 0 8 n

abbrev pub is_register : ℕ → Bool
is_register n = is_within 0 15 n

abbrev pub is_general : ℕ → Bool
is_general n = nat_lt n 15 && not (n == 13)

abbrev pub are_low : ℕ → ℕ → Bool
are_low a b = is_low a && is_low b

abbrev pub are_registers : ℕ → ℕ → Bool
are_registers a b = is_register a && is_register b

abbrev pub are_three_low : ℕ → ℕ → ℕ → Bool
are_three_low a b c = is_low a && are_low b c

-- a low register and a number below an end; two low registers and a number
abbrev pub low_and : ℕ → ℕ → ℕ → ℕ → Bool
low_and least end a n = is_low a && is_within least end n

abbrev pub two_low_and : ℕ → ℕ → ℕ → ℕ → ℕ → Bool
two_low_and least end a b n = is_low a && low_and least end b n

-- the base of STM is not in the list, or is its lowest register
abbrev pub is_stored : ℕ → ℕ → Bool
is_stored base list = not (list / 2 ^ base % 2 == 1) || list % 2 ^ base == 0

-- whether a register is in the class, and a register or number fits the role
abbrev pub is_of : Class → ℕ → Bool
is_of class.Low n = is_low n
is_of class.Any n = is_register n
is_of class.General n = is_general n

abbrev pub has_role : Role → ℕ → Bool
has_role (Register u c) n = is_of c n
has_role (Number least end) n = is_within least end n
has_role (List end) n = is_within 1 end n
has_role (Distance end) n = is_within 0 end n
has_role Nothing n = true

-- whether each of the three numbers fits its role
abbrev pub have_roles : Role → Role → Role → ℕ → ℕ → ℕ → Bool
have_roles Nothing s t a b c = true
have_roles r Nothing t a b c = has_role r a
have_roles r s Nothing a b c = has_role r a && has_role s b
have_roles r s t a b c = has_role r a && (has_role s b && has_role t c)

abbrev pub are_of : Operands → ℕ → ℕ → ℕ → Bool
are_of r a b c = have_roles r.first r.second r.third a b c

-- whether a kind has an instruction with these numbers: not both sp in ADD, not both low in CMP, and STM's base isn't in its list or is its lowest
abbrev pub is_instr : Kind → ℕ → ℕ → ℕ → Bool
is_instr kind.Add a b c = are_of (roles kind.Add) a b c && not (a == 13 && b == 13)
is_instr kind.Compare a b c = are_of (roles kind.Compare) a b c && not (nat_lt a 8 && nat_lt b 8)
is_instr kind.StoreMany a b c = are_of (roles kind.StoreMany) a b c && is_stored a b
is_instr k a b c = are_of (roles k) a b c

-- the number where the role has one, else 0
abbrev pub kept : Role → ℕ → ℕ
kept Nothing n = 0
kept r n = n

abbrev pub kept_of : Operands → Kind → ℕ → ℕ → ℕ → Parts
kept_of r k a b c = of k (kept r.first a) (kept r.second b) (kept r.third c)

abbrev pub when : Bool → Parts → Option Parts
when b m = if b then Some m else None

-- the parts of the instruction of a kind with these numbers, where there is one; numbers that the kind doesn't have are ignored
abbrev pub made : Kind → ℕ → ℕ → ℕ → Option Parts
made k a b c = when (is_instr k a b c) (kept_of (roles k) k a b c)
