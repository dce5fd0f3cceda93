-- Instructions of windows: the registers that they name, renaming them, which may be in a window, and which represents both encodings of one effect.
use Rattle.std.specs.Prelude.{◌≡◌, ℕ, ◌<◌, List, [], ◌∷◌, ◌++◌, Option, Some, None, slice_get, unwrap_or, ◌==◌, ◌&&◌, nat_lt, Bool, true, false, if◌then◌else◌}
use Rattle.std.proofs.Common.{lit≤, subst}
use Rattle.std.proofs.Math.Nat.{lt_of_lt_of_le, lt_irrefl}
use Rattle.thumb_instr.specs.declared.instr.Instr.{Instr}
use Rattle.thumb_instr.specs.declared.instr.Instr.TheVariants as instr
use Rattle.thumb_instr.specs.declared.kind.Parts.{Parts}
use Rattle.thumb_instr.specs.declared.role.Role.{Role}
use Rattle.thumb_instr.specs.declared.role.Role.TheVariants.{Register}
use Rattle.thumb_instr.specs.declared.role.Operands.{Operands}
use Rattle.thumb_instr.specs.declared.within.Within.{Within}
use Rattle.thumb_instr.specs.declared.within.NotBothSp.{NotBothSp}
use Rattle.thumb_instr.specs.Parts.{parts_of}
use Rattle.thumb_instr.specs.Roles.{roles}
use Rattle.thumb_instr.specs.declared.instr.Instr.TheVariants.{Mov, Three, Two, Movs, ShiftLeft, ShiftRight, ThreeNumber, TwoNumber, Add, Extend, Reverse}
use Rattle.thumb_instr.specs.declared.operation.SumOperation.{SumOperation}
use Rattle.thumb_instr.specs.declared.operation.SumOperation.TheVariants as sum
use Rattle.thumb_instr.specs.declared.operation.ByteOperation.{ByteOperation}
use Rattle.thumb_instr.specs.declared.operation.ByteOperation.TheVariants as byte

-- The registers that an instruction names, and renaming them.

-- a low register, and a register but pc
abbrev pub Low : Type 0
Low = Within 0 8

abbrev pub Reg : Type 0
Reg = Within 0 15

-- ---- names ----

abbrev pub named_by : Role → ℕ → List ℕ
named_by (Register u c) n = n ∷ []
named_by r n = []

abbrev pub named_in : Operands → Parts → List ℕ
named_in r p = named_by r.first p.first ++ (named_by r.second p.second ++ named_by r.third p.third)

-- the registers that an instruction names outside register lists, in the order of its canonical text
abbrev pub named : Instr → List ℕ
named i = named_in (roles (parts_of i).kind) (parts_of i)

abbrev pub AreBelow : ℕ → List ℕ → Type 0
AreBelow k [] = Unit {0}
AreBelow k (x ∷ xs) = (x < k) × AreBelow k xs

-- ---- renaming ----

-- a low register as a register
unfoldable pub widened : Low → Reg
widened r = record { number = r.number; least = r.least; below = lt_of_lt_of_le r.below (lit≤ tt) }

abbrev pub wide_or : Option Low → Reg → Reg
wide_or None x = x
wide_or (Some r) x = widened r

-- the result is sp only where the register is
pub sp_of : (o : Option Low) (x : Reg) → (wide_or o x).number ≡ 13 → x.number ≡ 13
unfolding widened
sp_of None x e = e
sp_of (Some r) x e = absurd (lt_irrefl 13 (lt_of_lt_of_le (subst (λ (n : ℕ). n < 8) e r.below) (lit≤ tt)))

-- the two registers of ADD, each replaced by a low one where f gives one
abbrev pub sum_under : (Reg → Option Low) → NotBothSp → NotBothSp
sum_under f r = record {
  target = wide_or (f r.target) r.target;
  source = wide_or (f r.source) r.source;
  one_other = λ e g. r.one_other (sp_of (f r.target) r.target e) (sp_of (f r.source) r.source g);
}

-- the register that a map gives in place of one: its n-th entry stands for register n, and registers beyond its end stay
abbrev pub low_under : List Low → Low → Low
low_under registers x = unwrap_or (slice_get registers x.number) x

abbrev pub reg_under : List Low → Reg → Reg
reg_under registers x = wide_or (slice_get registers x.number) x

abbrev pub both_under : List Low → NotBothSp → NotBothSp
both_under registers r = sum_under (λ x. slice_get registers x.number) r

-- an instruction of a window, renamed by the map
abbrev pub renamed : List Low → Instr → Instr
renamed registers (instr.Mov d m) = instr.Mov (reg_under registers d) (reg_under registers m)
renamed registers (instr.Three s d n m) = instr.Three s (low_under registers d) (low_under registers n) (low_under registers m)
renamed registers (instr.Two o d m) = instr.Two o (low_under registers d) (low_under registers m)
renamed registers (instr.Movs d m) = instr.Movs (low_under registers d) (low_under registers m)
renamed registers (instr.ShiftLeft d m i) = instr.ShiftLeft (low_under registers d) (low_under registers m) i
renamed registers (instr.ShiftRight s d m i) = instr.ShiftRight s (low_under registers d) (low_under registers m) i
renamed registers (instr.ThreeNumber s d n i) = instr.ThreeNumber s (low_under registers d) (low_under registers n) i
renamed registers (instr.TwoNumber o d i) = instr.TwoNumber o (low_under registers d) i
renamed registers (instr.Add r) = instr.Add (both_under registers r)
renamed registers (instr.Extend e d m) = instr.Extend e (low_under registers d) (low_under registers m)
renamed registers (instr.Reverse r d m) = instr.Reverse r (low_under registers d) (low_under registers m)
renamed registers i = i

-- the number of the renamed item: that of the map's register, or the item's own
abbrev pub number_or : Option Low → ℕ → ℕ
number_or None x = x
number_or (Some r) x = r.number

abbrev pub item_under : List Low → ℕ → ℕ
item_under registers x = number_or (slice_get registers x) x

-- Which instructions may be in a window, and the one that represents both encodings of an effect.

-- control goes on to the next instruction, no memory and no state but registers and flags is affected, and only low registers are named
abbrev pub is_in_window : Instr → Bool
is_in_window (Mov d m) = nat_lt d.number 8 && nat_lt m.number 8
is_in_window (Three s d n m) = true
is_in_window (Two o d m) = true
is_in_window (Movs d m) = true
is_in_window (ShiftLeft d m i) = true
is_in_window (ShiftRight s d m i) = true
is_in_window (ThreeNumber s d n i) = true
is_in_window (TwoNumber o d i) = true
is_in_window (Add r) = nat_lt r.target.number 8 && nat_lt r.source.number 8
is_in_window (Extend e d m) = true
is_in_window (Reverse r d m) = true
is_in_window i = false

-- a 3-bit number as an 8-bit one
abbrev pub byte_of : Within 0 8 → Within 0 256
byte_of i = record { number = i.number; least = i.least; below = lt_of_lt_of_le i.below (lit≤ tt) }

abbrev pub byte_sum : SumOperation → ByteOperation
byte_sum sum.Add = byte.Add
byte_sum sum.Sub = byte.Sub

-- ADDS and SUBS of a register and a 3-bit number also have an encoding with an 8-bit number where the register is the target
abbrev pub normal_of : Instr → Instr
normal_of (ThreeNumber s d n i) = if d.number == n.number then TwoNumber (byte_sum s) d (byte_of i) else ThreeNumber s d n i
normal_of i = i
