-- The texts of the instructions that may stand in windows: they begin with a letter, have no newline, and determine the instruction.
use Rattle.std.proofs.Common.{◌≡◌, ℕ, ◌*◌, ◌<◌, ◌^◌, ◌==◌, Bool, true, false, List, [], ◌∷◌, ◌++◌, refl, sym, ◌∙◌, ap, arith, Option, Some, None, inl, inr, eqb-true, map, lt-ltb}
use Rattle.std.specs.Prelude.{decimal, nat_lt, if◌then◌else◌}
use Rattle.std.specs.List.{list_all}
use Rattle.std.specs.Char.{is_ascii_digit}
use Rattle.std.proofs.lemmas.Bool.{cases_Bool, and_parts, and_from, ltb-true}
use Rattle.std.proofs.lemmas.Option.{same_Some}
use Rattle.ascii_scan.specs.FirstLine.{is_inside}
use Rattle.thumb_instr.specs.declared.instr.Instr.{Instr}
use Rattle.thumb_instr.specs.declared.instr.Instr.TheVariants as instr
use Rattle.thumb_instr.specs.declared.kind.Kind.{Kind}
use Rattle.thumb_instr.specs.declared.kind.Kind.TheVariants as kind
use Rattle.thumb_instr.specs.declared.kind.Parts.{Parts}
use Rattle.thumb_instr.specs.declared.operation.Operation.{Operation}
use Rattle.thumb_instr.specs.declared.operation.Operation.TheVariants as operation
use Rattle.thumb_instr.specs.declared.operation.SumOperation.TheVariants as sum
use Rattle.thumb_instr.specs.declared.operation.Right.TheVariants as right
use Rattle.thumb_instr.specs.declared.operation.ByteOperation.TheVariants as byte
use Rattle.thumb_instr.specs.declared.operation.Extension.TheVariants as extension
use Rattle.thumb_instr.specs.declared.operation.Reversal.TheVariants as reversal
use Rattle.thumb_instr.specs.declared.within.Within.{Within}
use Rattle.thumb_instr.specs.Window.{AreBelow, is_in_window}
use Rattle.thumb_instr.specs.Parts.{parts_of}
use Rattle.thumb_instr.proofs.PartLemmas.{same_parts}
use Rattle.thumb_syntax.specs.declared.form.OperandPosition.{OperandPosition}
use Rattle.thumb_syntax.specs.declared.form.OperandPosition.TheVariants as position
use Rattle.thumb_syntax.specs.declared.form.Slot.{Slot}
use Rattle.thumb_syntax.specs.declared.form.Slot.TheVariants as slot
use Rattle.thumb_syntax.specs.Slots.{Fields, at}
use Rattle.thumb_syntax.specs.Rows.{Shown, reading, shown_with}
use Rattle.thumb_syntax.specs.Forms.{mnemonic}
use Rattle.thumb_syntax.specs.Spelling.{slots, register_text, number_text, slot_text, slots_text, operands_text}
use Rattle.thumb_syntax.specs.Whole.{is_whole}
use Rattle.thumb_syntax.proofs.RoundTrip.{writing_reads_back}
use Rattle.rule_table.specs.Text.{instr_text}
use Rattle.rule_table.specs.Table.{IsInstr}
use Rattle.rule_table.proofs.InsideLines.{IsInside, inside_both, decimal_inside}

-- ---- slots

register_inside : (r : ℕ) → r < 2 ^ 64 → IsInside (register_text r)
register_inside r h = elim (cases_Bool (nat_lt r 13)) [
  | inl a ↦ rw a (and_from (is_inside 114) (list_all is_inside (decimal r)) refl (decimal_inside r h))
  | inr a ↦ rw a (elim (cases_Bool (r == 13)) [
    | inl b ↦ rw b refl
    | inr b ↦ rw b (elim (cases_Bool (r == 14)) [ inl c ↦ rw c refl | inr c ↦ rw c refl ])
  ])
]

number_inside : (n : ℕ) → n < 2 ^ 64 → IsInside (number_text n)
number_inside n h = and_from (is_inside 35) (list_all is_inside (decimal n)) refl (decimal_inside n h)

-- slots of instructions of windows: registers, numbers and commas
abbrev is_plain : Slot → Bool
is_plain (slot.Register p) = true
is_plain (slot.Same p) = true
is_plain (slot.Number p least most step) = step == 1
is_plain (slot.Exactly n) = n == 0
is_plain (slot.Mark m) = m == 44
is_plain s = false

record AreSmall (f : Fields) : Type 0 where
  first : f.first < 2 ^ 32
  second : f.second < 2 ^ 32
  third : f.third < 2 ^ 32

small_at : (f : Fields) (p : OperandPosition) → AreSmall f → at f p < 2 ^ 32
small_at f position.First s = s.first
small_at f position.Second s = s.second
small_at f position.Third s = s.third

slot_inside : (s : Slot) (f : Fields) → is_plain s ≡ true → AreSmall f → IsInside (slot_text s f)
slot_inside (slot.Register p) f e s = register_inside (at f p) (let k = small_at f p s in omega arith)
slot_inside (slot.Same p) f e s = register_inside (at f p) (let k = small_at f p s in omega arith)
slot_inside (slot.Number p least most step) f e s =
    let one : step ≡ 1 = eqb-true step 1 e in
    let k = small_at f p s in
    rw one (number_inside (at f p * 1) (omega arith))
slot_inside (slot.Exactly n) f e s = let none : n ≡ 0 = eqb-true n 0 e in number_inside n (omega arith)
slot_inside (slot.Mark m) f e s = rw (eqb-true m 44 e) refl
slot_inside s f e k = absurd cc

slots_inside : (ss : List Slot) (f : Fields) → list_all is_plain ss ≡ true → AreSmall f → IsInside (slots_text ss f)
slots_inside [] f e s = refl
slots_inside (x ∷ ss) f e s =
    let both = and_parts (is_plain x) (list_all is_plain ss) e in
    inside_both (slot_text x f) (slots_text ss f) (slot_inside x f both.0 s) (slots_inside ss f both.1 s)

operands_inside : (ss : List Slot) (f : Fields) → list_all is_plain ss ≡ true → AreSmall f → IsInside (operands_text ss f)
operands_inside [] f e s = refl
operands_inside (x ∷ ss) f e s = and_from (is_inside 32) (list_all is_inside (slots_text (x ∷ ss) f)) refl (slots_inside (x ∷ ss) f e s)

-- ---- kinds

-- the first byte isn't a digit
abbrev is_lettered : List ℕ → Bool
is_lettered [] = false
is_lettered (b ∷ bs) = if is_ascii_digit b then false else true

-- a kind of instructions of windows
record Plain (k : Kind) : Type 0 where
  letter : is_lettered (mnemonic k) ≡ true
  inside : IsInside (mnemonic k)
  slots' : (a b c : ℕ) → list_all is_plain (slots k a b c) ≡ true

three_plain : (s : _) → Plain (kind.Three s)
three_plain sum.Add = record { letter = refl; inside = refl; slots' = λ a b c. refl }
three_plain sum.Sub = record { letter = refl; inside = refl; slots' = λ a b c. refl }

two_plain : (o : Operation) → Plain (kind.Two o)
two_plain operation.And = record { letter = refl; inside = refl; slots' = λ a b c. refl }
two_plain operation.Eor = record { letter = refl; inside = refl; slots' = λ a b c. refl }
two_plain operation.Lsl = record { letter = refl; inside = refl; slots' = λ a b c. refl }
two_plain operation.Lsr = record { letter = refl; inside = refl; slots' = λ a b c. refl }
two_plain operation.Asr = record { letter = refl; inside = refl; slots' = λ a b c. refl }
two_plain operation.Adc = record { letter = refl; inside = refl; slots' = λ a b c. refl }
two_plain operation.Sbc = record { letter = refl; inside = refl; slots' = λ a b c. refl }
two_plain operation.Ror = record { letter = refl; inside = refl; slots' = λ a b c. refl }
two_plain operation.Tst = record { letter = refl; inside = refl; slots' = λ a b c. refl }
two_plain operation.Rsb = record { letter = refl; inside = refl; slots' = λ a b c. refl }
two_plain operation.Cmp = record { letter = refl; inside = refl; slots' = λ a b c. refl }
two_plain operation.Cmn = record { letter = refl; inside = refl; slots' = λ a b c. refl }
two_plain operation.Orr = record { letter = refl; inside = refl; slots' = λ a b c. refl }
two_plain operation.Mul = record { letter = refl; inside = refl; slots' = λ a b c. refl }
two_plain operation.Bic = record { letter = refl; inside = refl; slots' = λ a b c. refl }
two_plain operation.Mvn = record { letter = refl; inside = refl; slots' = λ a b c. refl }

right_plain : (s : _) → Plain (kind.ShiftRight s)
right_plain right.Lsr = record { letter = refl; inside = refl; slots' = λ a b c. refl }
right_plain right.Asr = record { letter = refl; inside = refl; slots' = λ a b c. refl }

three_number_plain : (s : _) → Plain (kind.ThreeNumber s)
three_number_plain sum.Add = record { letter = refl; inside = refl; slots' = λ a b c. refl }
three_number_plain sum.Sub = record { letter = refl; inside = refl; slots' = λ a b c. refl }

byte_plain : (o : _) → Plain (kind.TwoNumber o)
byte_plain byte.Mov = record { letter = refl; inside = refl; slots' = λ a b c. refl }
byte_plain byte.Cmp = record { letter = refl; inside = refl; slots' = λ a b c. refl }
byte_plain byte.Add = record { letter = refl; inside = refl; slots' = λ a b c. refl }
byte_plain byte.Sub = record { letter = refl; inside = refl; slots' = λ a b c. refl }

extend_plain : (e : _) → Plain (kind.Extend e)
extend_plain extension.Sxth = record { letter = refl; inside = refl; slots' = λ a b c. refl }
extend_plain extension.Sxtb = record { letter = refl; inside = refl; slots' = λ a b c. refl }
extend_plain extension.Uxth = record { letter = refl; inside = refl; slots' = λ a b c. refl }
extend_plain extension.Uxtb = record { letter = refl; inside = refl; slots' = λ a b c. refl }

reverse_plain : (r : _) → Plain (kind.Reverse r)
reverse_plain reversal.Rev = record { letter = refl; inside = refl; slots' = λ a b c. refl }
reverse_plain reversal.Rev16 = record { letter = refl; inside = refl; slots' = λ a b c. refl }
reverse_plain reversal.Revsh = record { letter = refl; inside = refl; slots' = λ a b c. refl }

-- an instruction of windows is of such a kind, its registers and numbers are small, and it names no label
record IsPlain (i : Instr) : Type 0 where
  kind' : Plain (parts_of i).kind
  first : (parts_of i).first < 2 ^ 32
  second : (parts_of i).second < 2 ^ 32
  third : (parts_of i).third < 2 ^ 32
  whole : is_whole i None ≡ true

plain : (i : Instr) → is_in_window i ≡ true → IsPlain i
plain (instr.Mov d m) w = record { kind' = record { letter = refl; inside = refl; slots' = λ a b c. refl }; first = omega (arith, d.below); second = omega (arith, m.below); third = omega arith; whole = refl }
plain (instr.Three s d n m) w = record { kind' = three_plain s; first = omega (arith, d.below); second = omega (arith, n.below); third = omega (arith, m.below); whole = refl }
plain (instr.Two o d m) w = record { kind' = two_plain o; first = omega (arith, d.below); second = omega (arith, m.below); third = omega arith; whole = refl }
plain (instr.Movs d m) w = record { kind' = record { letter = refl; inside = refl; slots' = λ a b c. refl }; first = omega (arith, d.below); second = omega (arith, m.below); third = omega arith; whole = refl }
plain (instr.ShiftLeft d m i) w = record { kind' = record { letter = refl; inside = refl; slots' = λ a b c. refl }; first = omega (arith, d.below); second = omega (arith, m.below); third = omega (arith, i.below); whole = refl }
plain (instr.ShiftRight s d m i) w = record { kind' = right_plain s; first = omega (arith, d.below); second = omega (arith, m.below); third = omega (arith, i.below); whole = refl }
plain (instr.ThreeNumber s d n i) w = record { kind' = three_number_plain s; first = omega (arith, d.below); second = omega (arith, n.below); third = omega (arith, i.below); whole = refl }
plain (instr.TwoNumber o d i) w = record { kind' = byte_plain o; first = omega (arith, d.below); second = omega (arith, i.below); third = omega arith; whole = refl }
plain (instr.Add r) w = record { kind' = record { letter = refl; inside = refl; slots' = λ a b c. refl }; first = omega (arith, r.target.below); second = omega (arith, r.source.below); third = omega arith; whole = refl }
plain (instr.Extend e d m) w = record { kind' = extend_plain e; first = omega (arith, d.below); second = omega (arith, m.below); third = omega arith; whole = refl }
plain (instr.Reverse r d m) w = record { kind' = reverse_plain r; first = omega (arith, d.below); second = omega (arith, m.below); third = omega arith; whole = refl }
plain i w = absurd cc

-- ---- texts

fields : Parts → Fields
fields m = record { first = m.first; second = m.second; third = m.third; label = None }

pub instr_inside : (i : Instr) → IsInstr i → IsInside (instr_text i)
unfolding fields
instr_inside i is =
    let p = plain i is.window in
    let m = parts_of i in
    inside_both (mnemonic m.kind) (operands_text (slots m.kind m.first m.second m.third) (fields m)) p.kind'.inside
    (operands_inside (slots m.kind m.first m.second m.third) (fields m) (p.kind'.slots' m.first m.second m.third) (record { first = p.first; second = p.second; third = p.third }))

-- the first byte isn't a digit
pub record Lettered (bs : List ℕ) : Type 0 where
  pub first : ℕ
  pub after : List ℕ
  pub is : bs ≡ first ∷ after
  pub tells : is_ascii_digit first ≡ false

lettered : (w bs : List ℕ) → is_lettered w ≡ true → Lettered (w ++ bs)
lettered [] bs e = absurd cc
lettered (x ∷ xs) bs e = elim (cases_Bool (is_ascii_digit x)) [
  | inl h ↦ absurd (let bad : false ≡ true = rw h at e in cc)
  | inr h ↦ record { first = x; after = xs ++ bs; is = refl; tells = h }
]

pub instr_lettered : (i : Instr) → IsInstr i → Lettered (instr_text i)
unfolding fields
instr_lettered i is = let m = parts_of i in lettered (mnemonic m.kind) (operands_text (slots m.kind m.first m.second m.third) (fields m)) (plain i is.window).kind'.letter

pub reads_back : (i : Instr) → IsInstr i → reading (instr_text i) ≡ Some (shown_with i None)
reads_back i is = writing_reads_back i None (plain i is.window).whole

-- two instructions that are shown in the same way are the same
pub same_shown : (i j : Instr) (l : Option (List ℕ × ℕ)) → shown_with i None ≡ shown_with j l → (i ≡ j) × (None ≡ l)
same_shown i j l e = (same_parts i j (ap (λ (s : Shown). s.made) e), ap (λ (s : Shown). s.label) e)

pub instr_tells : (i j : Instr) → IsInstr i → IsInstr j → instr_text i ≡ instr_text j → i ≡ j
instr_tells i j a b e =
    let same : Some (shown_with i None) ≡ Some (shown_with j None) = sym (reads_back i a) ∙ ap reading e ∙ reads_back j b in
    (same_shown i j None (same_Some _ _ same)).0

-- ---- reading

-- what is read of an instruction's text is that instruction
pub read_is : (i : Instr) (o : Option Shown) (bs : List ℕ) → o ≡ reading bs → IsInstr i → instr_text i ≡ bs → o ≡ Some (shown_with i None)
read_is i o bs e is text = e ∙ ap reading (sym text) ∙ reads_back i is

-- low registers
pub low_tests : (rs : List (Within 0 8)) → list_all (λ (r : Within 0 8). nat_lt r.number 4) rs ≡ true → AreBelow 4 (map (λ (r : Within 0 8). r.number) rs)
low_tests [] e = tt
low_tests (r ∷ rs) e =
    let both = and_parts (nat_lt r.number 4) (list_all (λ (q : Within 0 8). nat_lt q.number 4) rs) e in
    (ltb-true r.number 4 both.0, low_tests rs both.1)

pub low_tested : (rs : List (Within 0 8)) → AreBelow 4 (map (λ (r : Within 0 8). r.number) rs) → list_all (λ (r : Within 0 8). nat_lt r.number 4) rs ≡ true
low_tested [] h = refl
low_tested (r ∷ rs) h = and_from (nat_lt r.number 4) (list_all (λ (q : Within 0 8). nat_lt q.number 4) rs) (lt-ltb r.number 4 h.0) (low_tested rs h.1)
