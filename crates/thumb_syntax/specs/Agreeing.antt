-- Which slots may accept which operands, judged by the operands' sorts alone. Where one doesn't, the operands don't fill the slots.
use Rattle.std.specs.Prelude.{ℕ, ◌==◌, ◌&&◌, ◌||◌, not, Bool, true, false, List, [], ◌∷◌}
use Rattle.thumb_syntax.specs.declared.form.Slot.{Slot}
use Rattle.thumb_syntax.specs.declared.form.Slot.TheVariants as slot
use Rattle.thumb_syntax.specs.Operands.{Operand, register, base, number, sign}

-- a slot that consumes exactly one operand
abbrev pub takes_one : Slot → Bool
takes_one (slot.LowList p) = false
takes_one (slot.StackList p extra) = false
takes_one (slot.InList p q) = false
takes_one (slot.NotInList p q) = false
takes_one s = true

abbrev pub is_register : Operand → Bool
is_register (register r) = true
is_register o = false

abbrev pub is_base : Operand → Bool
is_base (base r) = true
is_base o = false

abbrev pub is_number : Operand → Bool
is_number (number n) = true
is_number o = false

abbrev pub is_mark : ℕ → Operand → Bool
is_mark m (sign s) = m == s
is_mark m o = false

-- a slot for a name, like one for a list, accepts every operand here
abbrev pub agrees : Slot → Operand → Bool
agrees (slot.Register p) o = is_register o
agrees (slot.Twice p q) o = is_register o
agrees (slot.Same p) o = is_register o
agrees slot.Sp o = is_register o
agrees (slot.Base p) o = is_base o
agrees (slot.Number p least most step) o = is_number o
agrees (slot.Exactly m) o = is_number o
agrees (slot.Mark m) o = is_mark m o
agrees s o = true

-- compares operands with slots up to the first slot that takes a list, or to the end of the operands, which may be only the first few
abbrev pub agree : List Slot → List Operand → Bool
agree [] [] = true
agree [] (o ∷ os) = false
agree (s ∷ ss) [] = true
agree (s ∷ ss) (o ∷ os) = not (takes_one s) || (agrees s o && agree ss os)
