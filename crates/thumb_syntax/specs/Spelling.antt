-- The canonical text of an instruction, which the writer produces.
use Rattle.std.specs.Prelude.{ℕ, ◌*◌, ◌/◌, ◌%◌, ◌^◌, ◌++◌, ◌==◌, ◌&&◌, Bool, true, false, List, [], ◌∷◌, Option, Some, None, codes, if◌then◌else◌, nat_lt}
use Rattle.std.specs.Fmt.{decimal}
use Rattle.thumb_syntax.specs.declared.form.Slot.{Slot}
use Rattle.thumb_syntax.specs.declared.form.Slot.TheVariants as slot
use Rattle.thumb_syntax.specs.Slots.{Fields, at, is_in_list}
use Rattle.thumb_syntax.specs.Forms.{mnemonic, forms}
use Rattle.thumb_syntax.specs.Rows.{Shown}
use Rattle.thumb_instr.specs.declared.kind.Kind.{Kind}
use Rattle.thumb_instr.specs.declared.kind.Kind.TheVariants as kind

-- ---- which form is written ----

-- an offset of 0 isn't written; LDM's base is written without `!` exactly where it is in the list
abbrev pub is_second : Kind → ℕ → ℕ → ℕ → Bool
is_second (kind.Offset x) a b c = c == 0
is_second (kind.Stack x) a b c = b == 0
is_second kind.LoadMany a b c = is_in_list a b
is_second k a b c = false

abbrev pub first_of : List (List Slot) → List Slot
first_of [] = []
first_of (ss ∷ more) = ss

abbrev pub second_of : List (List Slot) → List Slot
second_of [] = []
second_of (ss ∷ more) = first_of more

-- the form that follows the mnemonic of an instruction with these registers and numbers
abbrev pub slots : Kind → ℕ → ℕ → ℕ → List Slot
slots k a b c = if is_second k a b c then second_of (forms k) else first_of (forms k)

-- ---- its text ----

-- `r0` to `r12`, `sp`, `lr`, `pc`
abbrev pub register_text : ℕ → List ℕ
register_text r = if nat_lt r 13 then 114 ∷ decimal r else if r == 13 then codes "sp" else if r == 14 then codes "lr" else codes "pc"

abbrev pub number_text : ℕ → List ℕ
number_text n = 35 ∷ decimal n

-- a comma is followed by a blank
abbrev pub mark_text : ℕ → List ℕ
mark_text m = if m == 44 then codes ", " else m ∷ []

-- whether a list has the bit, which is below 9
abbrev pub has_bit : ℕ → ℕ → Bool
has_bit list b = nat_lt b 9 && list / 2 ^ b % 2 == 1

-- the register that a bit of a list means: bit 8 is the register that the list may have besides r0 to r7
abbrev pub member_text : ℕ → ℕ → List ℕ
member_text extra b = register_text (if nat_lt b 8 then b else extra)

-- the text before a register of a list: a comma unless it is the first
abbrev pub separator : Bool → List ℕ
separator is_first = if is_first then [] else codes ", "

-- the registers of the list that are among these bits, separated by commas
abbrev pub members : ℕ → ℕ → Bool → List ℕ → List ℕ
members extra list is_first [] = []
members extra list is_first (b ∷ bs) =
    if has_bit list b then separator is_first ++ (member_text extra b ++ members extra list false bs)
    else members extra list is_first bs

abbrev pub list_text : ℕ → ℕ → List ℕ → List ℕ
list_text extra list bits = 123 ∷ (members extra list true bits ++ codes "}")

abbrev pub low_bits : List ℕ
low_bits = 0 ∷ 1 ∷ 2 ∷ 3 ∷ 4 ∷ 5 ∷ 6 ∷ 7 ∷ []

abbrev pub stack_bits : List ℕ
stack_bits = 0 ∷ 1 ∷ 2 ∷ 3 ∷ 4 ∷ 5 ∷ 6 ∷ 7 ∷ 8 ∷ []

-- an added number of 0 isn't written
abbrev pub sum_text : List ℕ → ℕ → List ℕ
sum_text name n = if n == 0 then name else name ++ 43 ∷ decimal n

abbrev pub label_text : Option (List ℕ × ℕ) → List ℕ
label_text None = []
label_text (Some l) = l.0

abbrev pub label_sum_text : Option (List ℕ × ℕ) → List ℕ
label_sum_text None = []
label_sum_text (Some l) = sum_text l.0 l.1

abbrev pub slot_text : Slot → Fields → List ℕ
slot_text (slot.Register p) f = register_text (at f p)
slot_text (slot.Twice p q) f = register_text (at f p)
slot_text (slot.Same p) f = register_text (at f p)
slot_text slot.Sp f = codes "sp"
slot_text (slot.Base p) f = register_text (at f p) ++ codes "!"
slot_text (slot.Number p least most step) f = number_text (at f p * step)
slot_text (slot.Exactly n) f = number_text n
slot_text (slot.Mark m) f = mark_text m
slot_text slot.Sy f = codes "sy"
slot_text slot.I f = codes "i"
slot_text slot.Primask f = codes "primask"
slot_text slot.Ipsr f = codes "ipsr"
slot_text slot.Label f = label_text f.label
slot_text slot.LabelSum f = label_sum_text f.label
slot_text (slot.LowList p) f = list_text 14 (at f p) low_bits
slot_text (slot.StackList p extra) f = list_text extra (at f p) stack_bits
slot_text (slot.InList p q) f = []
slot_text (slot.NotInList p q) f = []

abbrev pub slots_text : List Slot → Fields → List ℕ
slots_text [] f = []
slots_text (s ∷ ss) f = slot_text s f ++ slots_text ss f

-- operands are preceded by a blank
abbrev pub operands_text : List Slot → Fields → List ℕ
operands_text [] f = []
operands_text (s ∷ ss) f = 32 ∷ slots_text (s ∷ ss) f

abbrev pub fields_of : Shown → Fields
fields_of s = record { first = s.made.first; second = s.made.second; third = s.made.third; label = s.label }

-- the canonical text
abbrev pub text_of : Shown → List ℕ
text_of s = mnemonic s.made.kind ++ operands_text (slots s.made.kind s.made.first s.made.second s.made.third) (fields_of s)
