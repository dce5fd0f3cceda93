-- Lines of canonical texts, and of labels alone, are read as what they say.
use Rattle.std.proofs.Common.{◌≡◌, ◌∙◌, ◌⊎◌, inl, inr, ℕ, zero, suc, ◌+◌, ◌*◌, ◌-◌, ◌<◌, ◌≤◌, ◌==◌, ◌&&◌, ◌||◌, Bool, true, false, List, [], ◌∷◌, ◌++◌, length, take, refl, sym, ap, arith, true≢false, Option, Some, None, Ok, subst, length-append, eqb-true, append_assoc}
use Rattle.std.specs.Prelude.{not, codes, nat_le, nat_lt, slice_get, option_map, if◌then◌else◌}
use Rattle.std.specs.List.{list_all}
use Rattle.std.specs.Fmt.{decimal}
use Rattle.std.specs.Str.Parse.{AllDigits}
use Rattle.std.proofs.lemmas.Bool.{cases_Bool, and_parts, and_from, leb-true, ltb-true, le-ltb, ne_eqb}
use Rattle.std.proofs.lemmas.Fmt.{decimal_is_IsNumeral, length-decimal-le}
use Rattle.std.proofs.lemmas.Str.Parse.{digit_at}
use Rattle.std.proofs.lemmas.List.Folds.{list_all-append}
use Rattle.ascii_scan.specs.Lines.{Placed, whole}
use Rattle.ascii_scan.specs.Names.{is_letter, is_name_byte, is_opening, is_register}
use Rattle.ascii_scan.specs.Tokens.{is_blank, front, rest}
use Rattle.thumb_instr.specs.declared.instr.Instr.{Instr}
use Rattle.thumb_instr.specs.declared.instr.Instr.TheVariants as instr
use Rattle.thumb_syntax.specs.declared.form.Slot.{Slot}
use Rattle.thumb_syntax.specs.declared.form.Slot.TheVariants as slot
use Rattle.thumb_syntax.specs.Operands.{is_name, is_some_of}
use Rattle.thumb_syntax.specs.Slots.{Fields, at, empty}
use Rattle.thumb_syntax.specs.Rows.{Row, Shown, data_rows, memory_rows, control_rows, reading}
use Rattle.thumb_syntax.specs.RowLaws.{rows}
use Rattle.thumb_instr.specs.Parts.{parts_of}
use Rattle.thumb_syntax.specs.Forms.{mnemonic}
use Rattle.thumb_syntax.specs.Spelling.{register_text, number_text, has_bit, separator, member_text, members, low_bits, stack_bits, slot_text, slots_text, operands_text, text_of}
use Rattle.thumb_syntax.specs.Whole.{is_whole}
use Rattle.thumb_syntax.proofs.SlotText.{stored_by, slot_fits, follows, slots_fit}
use Rattle.thumb_syntax.proofs.WrittenRows.{fields, row_at}
use Rattle.thumb_syntax.proofs.Words.{front_before}
use Rattle.thumb_syntax.proofs.Written.{written}
use Rattle.thumb_syntax.proofs.RoundTrip.{writing_reads_back}
use Rattle.thumb_model.specs.Listing.{Name, Nothing}
use Rattle.listing_parser.specs.Grammar.{front_of, Read, is_no_colon, is_no_at, begins_hash, is_some_byte, without_first, front_name, from_colon, begins_label, labels_at_front, without_return, body, code, with_labels, read_line, checked_line, shown_of, most_lines}
use Rattle.listing_parser.specs.Directives.{Unmarked, Plain, ByKind, Told, says, instruction, said, statement}
use Rattle.listing_parser.specs.Replacing.{names_no_label}
use Rattle.listing_parser.proofs.ReadingLemmas.{last_other, labels_more, labels_none}
use Rattle.common_lemmas.proofs.Booleans.{and_false}

-- ---- clear bytes ----

-- no newline, carriage return, colon or `@`
abbrev pub is_clear : ℕ → Bool
is_clear b = not (b == 10 || (b == 13 || (b == 58 || b == 64)))

-- clear bytes, at most n of them
pub record Clear (n : ℕ) (bs : List ℕ) : Type 0 where
  pub all : list_all is_clear bs ≡ true
  pub short : length bs ≤ n

clear_nil : (n : ℕ) → Clear n []
clear_nil n = record { all = refl; short = omega arith }

clear_both : (n m k : ℕ) (xs ys : List ℕ) → n + m ≤ k → Clear n xs → Clear m ys → Clear k (xs ++ ys)
clear_both n m k xs ys h a b = record {
  all = list_all-append is_clear xs ys ∙ and_from (list_all is_clear xs) (list_all is_clear ys) a.all b.all;
  short = omega (arith, length-append xs ys, a.short, b.short);
}

clear_more : (n m : ℕ) (bs : List ℕ) → n ≤ m → Clear n bs → Clear m bs
clear_more n m bs h a = record { all = a.all; short = omega (arith, a.short) }

clear_first : (n b : ℕ) (bs : List ℕ) → is_clear b ≡ true → Clear n bs → Clear (suc n) (b ∷ bs)
clear_first n b bs e a = record { all = and_from (is_clear b) (list_all is_clear bs) e a.all; short = omega (arith, a.short) }

digit_clear : (d : ℕ) → 48 ≤ d → d ≤ 57 → is_clear d ≡ true
digit_clear d low high = rw (ne_eqb d 10 (λ e. absurd (omega arith)), ne_eqb d 13 (λ e. absurd (omega arith)), ne_eqb d 58 (λ e. absurd (omega arith)), ne_eqb d 64 (λ e. absurd (omega arith))) refl

digits_clear : (ds : List ℕ) → AllDigits 10 ds → list_all is_clear ds ≡ true
digits_clear [] all = refl
digits_clear (d ∷ ds) all = and_from (is_clear d) (list_all is_clear ds) (let range = digit_at (d ∷ ds) 0 all (omega arith) in digit_clear d range.0 range.1) (digits_clear ds all.1)

decimal_clear : (n : ℕ) → n ≤ 1020 → Clear 4 (decimal n)
decimal_clear n small = record {
  all = digits_clear (decimal n) (decimal_is_IsNumeral n (omega arith)).0.1;
  short = length-decimal-le 4 n (omega arith) (omega arith) (omega arith);
}

-- ---- slots ----

register_clear : (r : ℕ) → r < 16 → Clear 5 (register_text r)
register_clear r small = elim (cases_Bool (nat_lt r 13)) [
  | inl h ↦ rw h (clear_first 4 114 (decimal r) refl (decimal_clear r (omega arith)))
  | inr h ↦ rw h (elim (cases_Bool (r == 13)) [
    | inl k ↦ rw k (record { all = refl; short = omega arith })
    | inr k ↦ rw k (elim (cases_Bool (r == 14)) [
      | inl j ↦ rw j (record { all = refl; short = omega arith })
      | inr j ↦ rw j (record { all = refl; short = omega arith })
    ])
  ])
]

number_clear : (n : ℕ) → n ≤ 1020 → Clear 5 (number_text n)
number_clear n small = clear_first 4 35 (decimal n) refl (decimal_clear n small)

member_clear : (extra b : ℕ) → extra < 16 → Clear 5 (member_text extra b)
member_clear extra b small = elim (cases_Bool (nat_lt b 8)) [
  | inl h ↦ (let k = ltb-true b 8 h in rw h (register_clear b (omega arith)))
  | inr h ↦ rw h (register_clear extra small)
]

separator_clear : (is_first : Bool) → Clear 2 (separator is_first)
separator_clear true = clear_nil 2
separator_clear false = record { all = refl; short = omega arith }

members_clear : (extra list : ℕ) (is_first : Bool) (bits : List ℕ) → extra < 16 → Clear (7 * length bits) (members extra list is_first bits)
members_clear extra list is_first [] small = clear_nil 0
members_clear extra list is_first (b ∷ bs) small = elim (cases_Bool (has_bit list b)) [
  | inl h ↦ rw h
      (clear_both 2 (5 + 7 * length bs) (7 * length (b ∷ bs)) (separator is_first) (member_text extra b ++ members extra list false bs) (omega arith)
      (separator_clear is_first)
      (clear_both 5 (7 * length bs) (5 + 7 * length bs) (member_text extra b) (members extra list false bs) (omega arith) (member_clear extra b small) (members_clear extra list false bs small)))
  | inr h ↦ rw h (clear_more (7 * length bs) (7 * length (b ∷ bs)) (members extra list is_first bs) (omega arith) (members_clear extra list is_first bs small))
]

list_clear : (extra list : ℕ) (bits : List ℕ) → extra < 16 → length bits ≤ 9 → Clear 70 (123 ∷ (members extra list true bits ++ codes "}"))
list_clear extra list bits small few =
    clear_first 69 123 (members extra list true bits ++ codes "}") refl
    (clear_both (7 * length bits) 1 69 (members extra list true bits) (codes "}") (omega arith) (members_clear extra list true bits small) (record { all = refl; short = omega arith }))

-- numbers are small, and marks clear
abbrev is_fine : Slot → Bool
is_fine (slot.Number p least most step) = nat_le most 1020
is_fine (slot.Exactly n) = nat_le n 1020
is_fine (slot.Mark m) = is_clear m
is_fine s = true

or_equal : (a b : ℕ) → ((a == b) || (a == 15)) ≡ true → (a ≡ b) ⊎ (a ≡ 15)
or_equal a b e = elim (cases_Bool (a == b)) [ inl h ↦ inl (eqb-true a b h) | inr h ↦ inr (eqb-true a 15 (rw h at e)) ]

mark_clear : (m : ℕ) → is_clear m ≡ true → Clear 70 (if m == 44 then codes ", " else m ∷ [])
mark_clear m e = elim (cases_Bool (m == 44)) [
  | inl h ↦ rw h (record { all = refl; short = omega arith })
  | inr h ↦ rw h (record { all = and_from (is_clear m) true e refl; short = omega arith })
]

slot_clear : (s : Slot) (g f : Fields) → f.label ≡ None → is_fine s ≡ true → slot_fits s g f ≡ true → Clear 70 (slot_text s f)
slot_clear (slot.Register p) g f none fine fits = clear_more 5 70 _ (omega arith) (register_clear (at f p) (ltb-true (at f p) 16 fits))
slot_clear (slot.Twice p q) g f none fine fits = absurd (true≢false (sym fits))
slot_clear (slot.Same p) g f none fine fits = clear_more 5 70 _ (omega arith) (register_clear (at f p) (ltb-true (at f p) 16 (and_parts (nat_lt (at f p) 16) _ fits).0))
slot_clear slot.Sp g f none fine fits = record { all = refl; short = omega arith }
slot_clear (slot.Base p) g f none fine fits =
    clear_both 5 1 70 (register_text (at f p)) (codes "!") (omega arith) (register_clear (at f p) (let k = ltb-true (at f p) 8 fits in omega arith)) (record { all = refl; short = omega arith })
slot_clear (slot.Number p least most step) g f none fine fits =
    let a = and_parts (nat_lt 0 step) _ fits in
    let b = and_parts (nat_le least (at f p * step)) _ a.1 in
    let c = and_parts (nat_le (at f p * step) most) _ b.1 in
    let low = leb-true (at f p * step) most c.0 in
    let high = leb-true most 1020 fine in
    clear_more 5 70 _ (omega arith) (number_clear (at f p * step) (omega arith))
slot_clear (slot.Exactly n) g f none fine fits = clear_more 5 70 _ (omega arith) (number_clear n (leb-true n 1020 fine))
slot_clear (slot.Mark m) g f none fine fits = mark_clear m fine
slot_clear slot.Sy g f none fine fits = record { all = refl; short = omega arith }
slot_clear slot.I g f none fine fits = record { all = refl; short = omega arith }
slot_clear slot.Primask g f none fine fits = record { all = refl; short = omega arith }
slot_clear slot.Ipsr g f none fine fits = record { all = refl; short = omega arith }
slot_clear slot.Label g f none fine fits = rw none (clear_nil 70)
slot_clear slot.LabelSum g f none fine fits = rw none (clear_nil 70)
slot_clear (slot.LowList p) g f none fine fits = list_clear 14 (at f p) low_bits (omega arith) (omega arith)
slot_clear (slot.StackList p extra) g f none fine fits = elim (or_equal extra 14 (and_parts ((extra == 14) || (extra == 15)) _ fits).0) [
  | inl e ↦ list_clear extra (at f p) stack_bits (omega arith) (omega arith)
  | inr e ↦ list_clear extra (at f p) stack_bits (omega arith) (omega arith)
]
slot_clear (slot.InList p q) g f none fine fits = clear_nil 70
slot_clear (slot.NotInList p q) g f none fine fits = clear_nil 70

slots_clear : (ss : List Slot) (g f : Fields) → f.label ≡ None → list_all is_fine ss ≡ true → slots_fit ss g f ≡ true → Clear (70 * length ss) (slots_text ss f)
slots_clear [] g f none fine fits = clear_nil 0
slots_clear (s ∷ ss) g f none fine fits =
    let a = and_parts (slot_fits s g f) _ fits in
    let b = and_parts (follows s ss) (slots_fit ss (stored_by s g f) f) a.1 in
    let c = and_parts (is_fine s) (list_all is_fine ss) fine in
    clear_both 70 (70 * length ss) (70 * length (s ∷ ss)) (slot_text s f) (slots_text ss f) (omega arith) (slot_clear s g f none c.0 a.0) (slots_clear ss (stored_by s g f) f none c.1 b.1)

operands_clear : (ss : List Slot) (g f : Fields) → f.label ≡ None → list_all is_fine ss ≡ true → length ss ≤ 9 → slots_fit ss g f ≡ true → Clear 631 (operands_text ss f)
operands_clear [] g f none fine few fits = clear_nil 631
operands_clear (s ∷ ss) g f none fine few fits =
    clear_first 630 32 (slots_text (s ∷ ss) f) refl (clear_more (70 * length (s ∷ ss)) 630 (slots_text (s ∷ ss) f) (omega arith) (slots_clear (s ∷ ss) g f none fine fits))

-- ---- rows ----

-- a mnemonic begins with a letter
abbrev is_lettered : List ℕ → Bool
is_lettered [] = false
is_lettered (b ∷ bs) = is_letter b

abbrev is_fine_row : Row → Bool
is_fine_row r = is_lettered r.mnemonic && (list_all is_clear r.mnemonic && (nat_le (length r.mnemonic) 9 && (list_all is_fine r.slots && nat_le (length r.slots) 9)))

all_fine : list_all is_fine_row rows ≡ true
unfolding rows data_rows memory_rows control_rows
all_fine = refl

fine_in : (rs : List Row) (k : ℕ) (r : Row) → list_all is_fine_row rs ≡ true → slice_get rs k ≡ Some r → is_fine_row r ≡ true
fine_in [] k r all e = absurd (cc)
fine_in (x ∷ xs) zero r all e = let s : x ≡ r = cc in subst (λ (y : Row). is_fine_row y ≡ true) s (and_parts (is_fine_row x) (list_all is_fine_row xs) all).0
fine_in (x ∷ xs) (suc k) r all e = fine_in xs k r (and_parts (is_fine_row x) (list_all is_fine_row xs) all).1 e

-- ---- canonical texts ----

-- clear bytes, the first a letter, far fewer than a line may have
pub record Canonical (t : List ℕ) : Type 0 where
  pub first : ℕ
  pub after : List ℕ
  pub is : t ≡ first ∷ after
  pub letter : is_letter first ≡ true
  pub clear : Clear 1000 t

lettered_text : (w bs : List ℕ) → is_lettered w ≡ true → Clear 1000 (w ++ bs) → Canonical (w ++ bs)
lettered_text [] bs e c = absurd (true≢false (sym e))
lettered_text (x ∷ xs) bs e c = record { first = x; after = xs ++ bs; is = refl; letter = e; clear = c }

pub names_none : (i : Instr) → names_no_label i ≡ true → is_whole i None ≡ true
names_none (instr.BranchIf c d) e = absurd (true≢false (sym e))
names_none (instr.Branch d) e = absurd (true≢false (sym e))
names_none (instr.Call d) e = absurd (true≢false (sym e))
names_none (instr.Literal t d) e = absurd (true≢false (sym e))
names_none (instr.Address t d) e = absurd (true≢false (sym e))
names_none i e = refl

-- the canonical text of an instruction that names no label
pub canonical_text : (i : Instr) → names_no_label i ≡ true → Canonical (text_of (shown_of i None))
canonical_text i e =
    let m = parts_of i in
    let w = written i None (names_none i e) in
    let f = fields m.first m.second m.third None in
    let row = row_at (mnemonic m.kind) w.slots m.kind in
    let fine = fine_in rows w.place row all_fine w.is_there in
    let a = and_parts (is_lettered (mnemonic m.kind)) _ fine in
    let b = and_parts (list_all is_clear (mnemonic m.kind)) _ a.1 in
    let c = and_parts (nat_le (length (mnemonic m.kind)) 9) _ b.1 in
    let d = and_parts (list_all is_fine w.slots) (nat_le (length w.slots) 9) c.1 in
    let operands = operands_clear w.slots empty f refl d.0 (leb-true (length w.slots) 9 d.1) w.fit in
    let all : Clear 1000 (mnemonic m.kind ++ operands_text w.slots f) =
    clear_both 9 631 1000 (mnemonic m.kind) (operands_text w.slots f) (omega arith) (record { all = b.0; short = leb-true (length (mnemonic m.kind)) 9 c.0 }) operands in
    subst Canonical (ap (λ (t : List ℕ). mnemonic m.kind ++ t) (sym w.text)) (lettered_text (mnemonic m.kind) (operands_text w.slots f) a.0 all)

-- ---- lines of clear bytes ----

clear_at : (b : ℕ) → is_clear b ≡ true → ((b == 10) ≡ false) × ((b == 13) ≡ false) × ((b == 58) ≡ false) × ((b == 64) ≡ false)
clear_at b e = elim (cases_Bool (b == 10)) [
  | inl h ↦ absurd (true≢false (sym (rw h at e)))
  | inr h ↦ elim (cases_Bool (b == 13)) [
    | inl k ↦ absurd (true≢false (sym (rw (h, k) at e)))
    | inr k ↦ elim (cases_Bool (b == 58)) [
      | inl j ↦ absurd (true≢false (sym (rw (h, k, j) at e)))
      | inr j ↦ elim (cases_Bool (b == 64)) [
        | inl m ↦ absurd (true≢false (sym (rw (h, k, j, m) at e)))
        | inr m ↦ (h, k, j, m)
      ]
    ]
  ]
]

no_return : (bs : List ℕ) → list_all is_clear bs ≡ true → without_return bs ≡ bs
no_return [] all = refl
no_return (b ∷ []) all = rw (clear_at b (and_parts (is_clear b) true all).0).1 refl
no_return (b ∷ c ∷ bs) all = ap (λ (w : List ℕ). b ∷ w) (no_return (c ∷ bs) (and_parts (is_clear b) (list_all is_clear (c ∷ bs)) all).1)

no_at : (bs : List ℕ) → list_all is_clear bs ≡ true → front is_no_at bs ≡ bs
no_at [] all = refl
no_at (b ∷ bs) all = let p = and_parts (is_clear b) (list_all is_clear bs) all in rw (clear_at b p.0).3 (ap (λ (w : List ℕ). b ∷ w) (no_at bs p.1))

no_colon : (bs : List ℕ) → list_all is_clear bs ≡ true → rest is_no_colon bs ≡ []
no_colon [] all = refl
no_colon (b ∷ bs) all = let p = and_parts (is_clear b) (list_all is_clear bs) all in rw (clear_at b p.0).2 (no_colon bs p.1)

rest_clear : (p : ℕ → Bool) (bs : List ℕ) → list_all is_clear bs ≡ true → list_all is_clear (rest p bs) ≡ true
rest_clear p [] all = refl
rest_clear p (b ∷ bs) all = elim (cases_Bool (p b)) [
  | inl h ↦ rw h (rest_clear p bs (and_parts (is_clear b) (list_all is_clear bs) all).1)
  | inr h ↦ rw h all
]

no_label : (bs : List ℕ) → list_all is_clear bs ≡ true → begins_label bs ≡ false
no_label bs all = ap (λ (x : List ℕ). is_name (front_name bs) && is_some_byte x) (no_colon (rest is_blank bs) (rest_clear is_blank bs all)) ∙ and_false (is_name (front_name bs))

body_is : (l : Placed) → without_return l.text ≡ l.text → body l ≡ l.text
body_is l e = elim (cases_Bool l.is_ended) [ inl h ↦ rw h e | inr h ↦ rw h refl ]

code_is : (bs : List ℕ) → begins_hash (rest is_blank bs) ≡ false → front is_no_at bs ≡ bs → code bs ≡ bs
unfolding code
code_is bs h e = rw h e

-- what is read of a line without labels
abbrev pub unnamed : Told → List ℕ → Read
unnamed t text = record { line = record { names = []; said = t.said; text = text; front = [] }; mark = t.mark }

read_by : (l : Placed) (bs : List ℕ) (t : Told) → code (body l) ≡ bs → labels_at_front bs ≡ ([], bs) → statement bs ≡ Some t → read_line l ≡ Some (unnamed t (whole l))
unfolding read_line
read_by l bs t e f g =
    ap (λ (c : List ℕ). with_labels l (length c) (labels_at_front c)) e
    ∙ ap (with_labels l (length bs)) f
    ∙ ap (option_map (λ (x : Told). unnamed x (whole l))) g

pub read_clear : (l : Placed) (t : Told) → list_all is_clear l.text ≡ true → begins_hash (rest is_blank l.text) ≡ false → statement l.text ≡ Some t → read_line l ≡ Some (unnamed t (whole l))
read_clear l t all h e =
    read_by l l.text t (ap code (body_is l (no_return l.text all)) ∙ code_is l.text h (no_at l.text all)) (labels_none l.text (no_label l.text all)) e

pub read_checked : (l : Placed) (r : Read) → l.number ≤ most_lines → length l.text ≤ 1024 → read_line l ≡ Some r → checked_line l ≡ Ok r
unfolding checked_line
read_checked l r few short e = rw (le-ltb most_lines l.number few, le-ltb 1024 (length l.text) short, e) refl

-- ---- a canonical text, alone or behind a tab ----

-- the text itself, or a tab before it
abbrev pub IsLineOf : List ℕ → List ℕ → Type 0
IsLineOf t bs = (bs ≡ t) ⊎ (bs ≡ 9 ∷ t)

letter_else : (b : ℕ) → is_letter b ≡ true → (is_blank b ≡ false) × ((b == 35) ≡ false) × ((b == 46) ≡ false)
letter_else b e = (grind arith, grind arith, grind arith)

-- what the lemmas on a line ask of its bytes
record IsClearLine (t bs : List ℕ) : Type 0 where
  all : list_all is_clear bs ≡ true
  short : length bs ≤ 1024
  begins : rest is_blank bs ≡ t

rest_of_text : (t : List ℕ) (c : Canonical t) → rest is_blank t ≡ t
rest_of_text t c = let e = (letter_else c.first c.letter).0 in ap (rest is_blank) c.is ∙ rw e (sym c.is)

clear_line : (t bs : List ℕ) → Canonical t → IsLineOf t bs → IsClearLine t bs
clear_line t bs c (inl e) = record {
  all = ap (list_all is_clear) e ∙ c.clear.all;
  short = omega (arith, c.clear.short, ap (λ (w : List ℕ). length w) e);
  begins = ap (rest is_blank) e ∙ rest_of_text t c;
}
clear_line t bs c (inr e) = record {
  all = ap (list_all is_clear) e ∙ c.clear.all;
  short = omega (arith, c.clear.short, ap (λ (w : List ℕ). length w) e);
  begins = ap (rest is_blank) e ∙ rest_of_text t c;
}

text_says : (t : List ℕ) (s : Shown) → Canonical t → reading t ≡ Some s → said t ≡ Some (record { said = ByKind s; mark = Unmarked })
unfolding instruction
text_says t s c e =
    let other = (letter_else c.first c.letter).2 in
    ap said c.is
    ∙ rw other (ap (λ (w : List ℕ). instruction w) (sym c.is) ∙ ap (option_map (λ (x : Shown). (let y : Told = record { said = ByKind x; mark = Unmarked } in y))) e)

statement_is : (bs t : List ℕ) (o : Option Told) → rest is_blank bs ≡ t → said t ≡ o → statement bs ≡ o
unfolding statement
statement_is bs t o e f = ap said e ∙ f

-- what is read of an instruction's text
abbrev pub told_of : Instr → Told
told_of i = record { said = ByKind (shown_of i None); mark = Unmarked }

no_hash : (t bs : List ℕ) → Canonical t → rest is_blank bs ≡ t → begins_hash (rest is_blank bs) ≡ false
no_hash t bs c e = ap begins_hash (e ∙ c.is) ∙ (letter_else c.first c.letter).1

-- the canonical text of an instruction that names no label, alone or behind a tab, is read as the instruction
pub canonical_line : (i : Instr) (l : Placed) → names_no_label i ≡ true → IsLineOf (text_of (shown_of i None)) l.text → read_line l ≡ Some (unnamed (told_of i) (whole l))
canonical_line i l e is =
    let t = text_of (shown_of i None) in
    let c = canonical_text i e in
    let clear = clear_line t l.text c is in
    read_clear l (told_of i) clear.all (no_hash t l.text c clear.begins)
    (statement_is l.text t (Some (told_of i)) clear.begins (text_says t (shown_of i None) c (writing_reads_back i None (names_none i e))))

pub canonical_line_checked : (i : Instr) (l : Placed) → names_no_label i ≡ true → IsLineOf (text_of (shown_of i None)) l.text → l.number ≤ most_lines → checked_line l ≡ Ok (unnamed (told_of i) (whole l))
canonical_line_checked i l e is few =
    let clear = clear_line (text_of (shown_of i None)) l.text (canonical_text i e) is in
    read_checked l (unnamed (told_of i) (whole l)) few clear.short (canonical_line i l e is)

-- ---- a line of nothing ----

pub nothing_said : statement [] ≡ Some (says Nothing)
unfolding statement
nothing_said = refl

-- ---- a label alone ----

-- what is read of labels alone
abbrev pub labels_only : List Name → List ℕ → List ℕ → Read
labels_only names text front = record { line = record { names = names; said = Plain Nothing; text = text; front = front }; mark = Unmarked }

pub front_all : (p : ℕ → Bool) (bs : List ℕ) → list_all p bs ≡ true → front p bs ≡ bs
front_all p [] all = refl
front_all p (b ∷ bs) all = let a = and_parts (p b) (list_all p bs) all in rw a.0 (ap (λ (w : List ℕ). b ∷ w) (front_all p bs a.1))

pub front_short : (p : ℕ → Bool) (bs : List ℕ) → length (front p bs) ≤ length bs
front_short p [] = omega arith
front_short p (b ∷ bs) = elim (cases_Bool (p b)) [ inl h ↦ rw h (omega (arith, front_short p bs)) | inr h ↦ rw h (omega arith) ]

whole_front : (p : ℕ → Bool) (bs : List ℕ) → length (front p bs) ≡ length bs → list_all p bs ≡ true
whole_front p [] e = refl
whole_front p (b ∷ bs) e = elim (cases_Bool (p b)) [
  | inl h ↦ rw h (whole_front p bs (let k : suc (length (front p bs)) ≡ suc (length bs) = rw h at e in omega arith))
  | inr h ↦ absurd (let k : 0 ≡ suc (length bs) = rw h at e in omega arith)
]

-- a name is bytes of names, at least one
name_some : (b : ℕ) (bs : List ℕ) (x : Bool) → is_some_of (if x then Some (length (front is_name_byte (b ∷ bs))) else None) (length (b ∷ bs)) ≡ true → list_all is_name_byte (b ∷ bs) ≡ true
name_some b bs false e = absurd (true≢false (sym e))
name_some b bs true e = whole_front is_name_byte (b ∷ bs) (eqb-true (length (front is_name_byte (b ∷ bs))) (length (b ∷ bs)) e)

pub name_bytes : (w : List ℕ) → is_name w ≡ true → list_all is_name_byte w ≡ true
name_bytes [] e = refl
name_bytes (b ∷ bs) e = name_some b bs (is_opening b && not (is_register (front is_name_byte (b ∷ bs)))) e

name_byte_else : (b : ℕ) → is_name_byte b ≡ true → (is_blank b ≡ false) × ((b == 35) ≡ false) × (is_no_colon b ≡ true) × (is_no_at b ≡ true)
name_byte_else b e = (grind arith, grind arith, grind arith, grind arith)

names_no_colon : (w : List ℕ) → list_all is_name_byte w ≡ true → list_all is_no_colon w ≡ true
names_no_colon [] all = refl
names_no_colon (b ∷ bs) all = let a = and_parts (is_name_byte b) (list_all is_name_byte bs) all in and_from (is_no_colon b) (list_all is_no_colon bs) (name_byte_else b a.0).2 (names_no_colon bs a.1)

pub take_front : (xs ys : List ℕ) (n : ℕ) → n ≡ length xs → take n (xs ++ ys) ≡ xs
take_front [] ys zero e = refl
take_front [] ys (suc n) e = absurd (omega arith)
take_front (x ∷ xs) ys zero e = absurd (omega arith)
take_front (x ∷ xs) ys (suc n) e = ap (λ (w : List ℕ). x ∷ w) (take_front xs ys n (omega arith))

take_all : (bs : List ℕ) (n : ℕ) → n ≡ length bs → take n bs ≡ bs
take_all [] zero e = refl
take_all [] (suc n) e = absurd (omega arith)
take_all (b ∷ bs) zero e = absurd (omega arith)
take_all (b ∷ bs) (suc n) e = ap (λ (w : List ℕ). b ∷ w) (take_all bs n (omega arith))

take_whole : (l : Placed) (bs : List ℕ) (n : ℕ) → l.text ≡ bs → n ≡ length bs → take n (whole l) ≡ bs
take_whole l bs n e h = elim (cases_Bool l.is_ended) [
  | inl k ↦ rw k (ap (λ (w : List ℕ). take n (w ++ 10 ∷ [])) e ∙ take_front bs (10 ∷ []) n h)
  | inr k ↦ rw k (ap (take n) e ∙ take_all bs n h)
]

pub front_of_named : (names : List Name) (n : ℕ) (bs w : List ℕ) → (names ≡ [] → ⊥) → take n bs ≡ w → front_of names n bs ≡ w ++ 10 ∷ []
front_of_named [] n bs w some e = absurd (some refl)
front_of_named (name ∷ names) n bs w some e = ap (λ (x : List ℕ). x ++ 10 ∷ []) e

-- bytes that are labels alone
pub labels_read : (names : List Name) (bs : List ℕ) (l : Placed) → (names ≡ [] → ⊥) → l.text ≡ bs → without_return bs ≡ bs → code bs ≡ bs → labels_at_front bs ≡ (names, []) → read_line l ≡ Some (labels_only names (whole l) (bs ++ 10 ∷ []))
unfolding read_line
labels_read names bs l some is e f g =
    let here : body l ≡ bs = body_is l (ap without_return is ∙ e ∙ sym is) ∙ is in
    ap (λ (c : List ℕ). with_labels l (length c) (labels_at_front c)) (ap code here ∙ f)
    ∙ ap (with_labels l (length bs)) g
    ∙ ap (option_map (λ (t : Told). (let x : Read = record { line = record { names = names; said = t.said; text = whole l; front = front_of names (length bs - 0) (whole l) }; mark = t.mark } in x))) nothing_said
    ∙ ap (λ (w : List ℕ). Some (labels_only names (whole l) w)) (front_of_named names (length bs - 0) (whole l) bs some (take_whole l bs (length bs - 0) is (omega arith)))

-- a name has a first byte, which is no blank and no `#`
name_begins : (w bs : List ℕ) → is_name w ≡ true → (rest is_blank (w ++ bs) ≡ w ++ bs) × (begins_hash (w ++ bs) ≡ false)
name_begins [] bs e = absurd (true≢false (sym e))
name_begins (x ∷ xs) bs e = let other = name_byte_else x (and_parts (is_name_byte x) (list_all is_name_byte xs) (name_bytes (x ∷ xs) e)).0 in (rw other.0 refl, other.1)

names_no_at : (w : List ℕ) → list_all is_name_byte w ≡ true → list_all is_no_at w ≡ true
names_no_at [] all = refl
names_no_at (b ∷ bs) all = let a = and_parts (is_name_byte b) (list_all is_name_byte bs) all in and_from (is_no_at b) (list_all is_no_at bs) (name_byte_else b a.0).3 (names_no_at bs a.1)

label_begins : (w : List ℕ) → is_name w ≡ true → (front_name (w ++ 58 ∷ []) ≡ w) × (from_colon (w ++ 58 ∷ []) ≡ 58 ∷ [])
label_begins w e =
    let text = (name_begins w (58 ∷ []) e).0 in
    let stops = front_before is_no_colon w 58 [] (names_no_colon w (name_bytes w e)) refl in
    (ap (front is_no_colon) text ∙ stops.0, ap (rest is_no_colon) text ∙ stops.1)

label_labels : (w : List ℕ) → is_name w ≡ true → labels_at_front (w ++ 58 ∷ []) ≡ (w ∷ [], [])
label_labels w e =
    let b = label_begins w e in
    let is : begins_label (w ++ 58 ∷ []) ≡ true = and_from (is_name (front_name (w ++ 58 ∷ []))) (is_some_byte (from_colon (w ++ 58 ∷ []))) (ap is_name b.0 ∙ e) (ap is_some_byte b.1) in
    labels_more (w ++ 58 ∷ []) is
    ∙ ap (λ (n : Name). (let x : List Name × List ℕ = (n ∷ (labels_at_front (without_first (from_colon (w ++ 58 ∷ [])))).0, (labels_at_front (without_first (from_colon (w ++ 58 ∷ [])))).1) in x)) b.0
    ∙ ap (λ (y : List ℕ). (let x : List Name × List ℕ = (w ∷ (labels_at_front (without_first y)).0, (labels_at_front (without_first y)).1) in x)) b.1
    ∙ ap (λ (r : List Name × List ℕ). (let x : List Name × List ℕ = (w ∷ r.0, r.1) in x)) (labels_none [] refl)

label_code : (w : List ℕ) → is_name w ≡ true → code (w ++ 58 ∷ []) ≡ w ++ 58 ∷ []
label_code w e =
    let begins = name_begins w (58 ∷ []) e in
    code_is (w ++ 58 ∷ []) (ap begins_hash begins.0 ∙ begins.1)
    (front_all is_no_at (w ++ 58 ∷ []) (list_all-append is_no_at w (58 ∷ []) ∙ and_from (list_all is_no_at w) true (names_no_at w (name_bytes w e)) refl))

-- a name and a colon are read as the label alone
pub label_line : (w : List ℕ) (l : Placed) → is_name w ≡ true → l.text ≡ w ++ 58 ∷ [] → read_line l ≡ Some (labels_only (w ∷ []) (whole l) (w ++ 58 ∷ 10 ∷ []))
label_line w l e is =
    labels_read (w ∷ []) (w ++ 58 ∷ []) l (λ h. absurd (cc)) is (last_other w 58 (λ h. absurd (omega arith))) (label_code w e) (label_labels w e)
    ∙ ap (λ (y : List ℕ). Some (labels_only (w ∷ []) (whole l) y)) (append_assoc w (58 ∷ []) (10 ∷ []))

pub label_line_checked : (w : List ℕ) (l : Placed) → is_name w ≡ true → l.text ≡ w ++ 58 ∷ [] → length w ≤ 1023 → l.number ≤ most_lines → checked_line l ≡ Ok (labels_only (w ∷ []) (whole l) (w ++ 58 ∷ 10 ∷ []))
label_line_checked w l e is short few =
    read_checked l (labels_only (w ∷ []) (whole l) (w ++ 58 ∷ 10 ∷ [])) few (omega (arith, short, length-append w (58 ∷ []), ap (λ (y : List ℕ). length y) is)) (label_line w l e is)
