-- The sides of a family: instructions in which one 8-bit number stands for a symbol, and the instructions that they become for each value of the symbol.
use Rattle.std.specs.Prelude.{◌≡◌, ℕ, ◌<◌, ◌≤◌, ◌==◌, true, List, [], ◌∷◌, map, if◌then◌else◌}
use Rattle.thumb_instr.specs.declared.instr.Instr.{Instr}
use Rattle.thumb_instr.specs.declared.instr.Instr.TheVariants as instr
use Rattle.thumb_instr.specs.declared.within.Within.{Within}
use Rattle.thumb_instr.specs.Parts.{parts_of}
use Rattle.thumb_instr.specs.Window.{is_in_window, named, AreBelow}
use Rattle.bit_blast.specs.declared.slots.Slot.{Slot}
use Rattle.bit_blast.specs.declared.slots.Slot.TheVariants.{Plain, Hole}
use Rattle.bit_blast.specs.declared.slots.Symbol.{Symbol}

-- an 8-bit number
abbrev pub Byte : Type 0
Byte = Within 0 256

-- a value that the symbol may have
abbrev pub IsValue : Symbol → Byte → Type 0
IsValue s x = (s.low ≤ x.number) × (x.number ≤ s.high)

-- the instruction that a slot becomes where the symbol's value is x
abbrev pub filled : Byte → Slot → Instr
filled x (Plain i) = i
filled x (Hole o d) = instr.TwoNumber o d x

-- an instruction as a slot: movs, cmp, adds and subs with the 8-bit number n are holes
abbrev pub slot : ℕ → Instr → Slot
slot n (instr.TwoNumber o d i) = if i.number == n then Hole o d else Plain (instr.TwoNumber o d i)
slot n i = Plain i

abbrev pub slots : ℕ → List Instr → List Slot
slots n side = map (slot n) side

-- a side in which x replaces the number n in each hole
abbrev pub instance : ℕ → List Instr → Byte → List Instr
instance n side x = map (filled x) (slots n side)

-- ---- by slot

-- the target register of an instruction of windows, which a compare leaves unchanged: the first that its text names
abbrev pub target_of : Instr → ℕ
target_of i = (parts_of i).first

abbrev pub slot_target : Slot → ℕ
slot_target (Plain i) = target_of i
slot_target (Hole o d) = d.number

-- the slot's instruction may stand in a window, and names no register from k on
abbrev pub IsSlotOver : ℕ → Slot → Type 0
IsSlotOver k (Plain i) = (is_in_window i ≡ true) × AreBelow k (named i)
IsSlotOver k (Hole o d) = d.number < k

abbrev pub AreSlotsOver : ℕ → List Slot → Type 0
AreSlotsOver k [] = Unit {0}
AreSlotsOver k (x ∷ xs) = IsSlotOver k x × AreSlotsOver k xs
