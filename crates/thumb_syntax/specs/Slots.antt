-- What a form's slots accept and store. A register list is a number: bit n is register n, r0 to r7, and bit 8 is lr or pc where the list may have it.
use Rattle.std.specs.Prelude.{ℕ, ◌+◌, ◌-◌, ◌^◌, ◌==◌, ◌&&◌, Bool, false, List, [], ◌∷◌, Option, Some, None, if◌then◌else◌, nat_lt, option_and_then, bit_and, bit_or, ◌/◌, ◌%◌, ◌||◌, not, codes, option_map}
use Rattle.thumb_syntax.specs.Operands.{Operand, register, range, sign, is_some_of, base, number, name, sum}
use Rattle.std.specs.Str.{bytes_eq}
use Rattle.ascii_scan.specs.Names.{is_spelled}
use Rattle.thumb_syntax.specs.declared.form.OperandPosition.{OperandPosition}
use Rattle.thumb_syntax.specs.declared.form.OperandPosition.TheVariants as position
use Rattle.thumb_syntax.specs.declared.form.Slot.{Slot}
use Rattle.thumb_syntax.specs.declared.form.Slot.TheVariants as slot

-- ---- lists of registers ----

abbrev pub is_sign : ℕ → Operand → Bool
is_sign m (sign s) = m == s
is_sign m _ = false

-- the bits of a register, or of a range, which goes from a lower to a higher register
abbrev pub bits_of : Option ℕ → Operand → Option ℕ
bits_of extra (register r) = if nat_lt r 8 then Some (2 ^ r) else if is_some_of extra r then Some 256 else None
bits_of extra (range a b) = if nat_lt a b && nat_lt b 8 then Some (2 ^ (b + 1) - 2 ^ a) else None
bits_of extra _ = None

-- the list with more bits, where it has none of them yet
abbrev pub joined : ℕ → ℕ → Option ℕ
joined list bits = if bit_and list bits == 0 then Some (bit_or list bits) else None

abbrev pub added : Option ℕ → ℕ → Operand → Option ℕ
added extra list o = option_and_then (joined list) (bits_of extra o)

-- a list, from after its opening brace or a comma on, and the operands after its closing brace
abbrev pub items : Option ℕ → ℕ → List Operand → Option (ℕ × List Operand)
items extra list [] = None
items extra list (o ∷ []) = None
items extra list (o ∷ s ∷ os) =
    option_and_then (λ more. if is_sign 44 s then items extra more os else if is_sign 125 s then Some (more, os) else None) (added extra list o)

-- a list in braces, and the operands after it
abbrev pub listed : Option ℕ → List Operand → Option (ℕ × List Operand)
listed extra [] = None
listed extra (o ∷ os) = if is_sign 123 o then items extra 0 os else None

-- ---- slots ----

-- the registers and numbers of an instruction in the order of its canonical text, and its label with the number added to it
pub record Fields : Type 0 where
  pub first : ℕ
  pub second : ℕ
  pub third : ℕ
  pub label : Option (List ℕ × ℕ)

abbrev pub empty : Fields
empty = record { first = 0; second = 0; third = 0; label = None }

abbrev pub at : Fields → OperandPosition → ℕ
at f position.First = f.first
at f position.Second = f.second
at f position.Third = f.third

abbrev pub put : Fields → OperandPosition → ℕ → Fields
put f position.First n = record { first = n; second = f.second; third = f.third; label = f.label }
put f position.Second n = record { first = f.first; second = n; third = f.third; label = f.label }
put f position.Third n = record { first = f.first; second = f.second; third = n; label = f.label }

abbrev pub named : Fields → List ℕ → ℕ → Fields
named f w i = record { first = f.first; second = f.second; third = f.third; label = Some (w, i) }

abbrev pub is_in_list : ℕ → ℕ → Bool
is_in_list r list = nat_lt r 8 && list / 2 ^ r % 2 == 1

abbrev pub kept_if : Bool → Fields → Option Fields
kept_if b f = if b then Some f else None

-- a number from the least to the most, a multiple of the step, is stored in units of the step
abbrev pub number_filled : Fields → OperandPosition → ℕ → ℕ → ℕ → ℕ → Option Fields
number_filled f p least most step n =
    if step == 0 || (nat_lt n least || (nat_lt most n || not (n % step == 0))) then None else Some (put f p (n / step))

-- the fields after an operand, where the slot accepts it
abbrev pub filled_by : Slot → Fields → Operand → Option Fields
filled_by (slot.Register p) f (register r) = Some (put f p r)
filled_by (slot.Twice p q) f (register r) = Some (put (put f p r) q r)
filled_by (slot.Same p) f (register r) = kept_if (at f p == r) f
filled_by slot.Sp f (register r) = kept_if (r == 13) f
filled_by (slot.Base p) f (base r) = Some (put f p r)
filled_by (slot.Number p least most step) f (number n) = number_filled f p least most step n
filled_by (slot.Exactly m) f (number n) = kept_if (n == m) f
filled_by (slot.Mark m) f (sign s) = kept_if (m == s) f
filled_by slot.Sy f (name x) = kept_if (bytes_eq x (codes "sy")) f
filled_by slot.I f (name x) = kept_if (bytes_eq x (codes "i")) f
filled_by slot.Primask f (name x) = kept_if (is_spelled x (codes "primask")) f
filled_by slot.Ipsr f (name x) = kept_if (is_spelled x (codes "ipsr")) f
filled_by slot.Label f (name x) = Some (named f x 0)
filled_by slot.LabelSum f (name x) = Some (named f x 0)
filled_by slot.LabelSum f (sum x i) = Some (named f x i)
filled_by _ f o = None

abbrev pub list_filled : Fields → OperandPosition → Option (ℕ × List Operand) → Option (Fields × List Operand)
list_filled f p found = option_map (λ r. (put f p r.0, r.1)) found

abbrev pub next_filled : Slot → Fields → List Operand → Option (Fields × List Operand)
next_filled s f [] = None
next_filled s f (o ∷ os) = option_map (λ g. (g, os)) (filled_by s f o)

-- the fields after the operands that the slot consumes, and the operands after those
abbrev pub taken : Slot → Fields → List Operand → Option (Fields × List Operand)
taken (slot.LowList p) f os = list_filled f p (listed None os)
taken (slot.StackList p extra) f os = list_filled f p (listed (Some extra) os)
taken (slot.InList p q) f os = if is_in_list (at f p) (at f q) then Some (f, os) else None
taken (slot.NotInList p q) f os = if is_in_list (at f p) (at f q) then None else Some (f, os)
taken s f os = next_filled s f os

abbrev pub ended : Fields → List Operand → Option Fields
ended f [] = Some f
ended f (o ∷ os) = None

-- the fields of operands that fill the slots in order, with no operand left
abbrev pub filled : List Slot → Fields → List Operand → Option Fields
filled [] f os = ended f os
filled (s ∷ ss) f os = option_and_then (λ r. filled ss r.0 r.1) (taken s f os)
