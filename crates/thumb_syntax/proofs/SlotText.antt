-- The text that is written for slots is read by these slots as the fields that were written.
use Rattle.std.proofs.Common.{◌≡◌, ◌∙◌, inl, inr, ℕ, ◌*◌, ◌/◌, ◌%◌, ◌<◌, ◌^◌, ◌++◌, ◌&&◌, ◌||◌, ◌==◌, Bool, true, false, not, List, [], ◌∷◌, map, Option, Some, None, refl, sym, ap, arith, true≢false, eqb-true, eq-eqb}
use Rattle.std.specs.Prelude.{nat_lt, nat_le, codes, option_map, option_and_then}
use Rattle.std.proofs.Math.Nat.{mul-mod_left}
use Rattle.std.proofs.lemmas.List.{append-nil}
use Rattle.std.proofs.lemmas.Bool.{cases_Bool, and_parts, or_cases, ltb-true, leb-true, le-ltb, ne_eqb, not-true}
use Rattle.ascii_scan.specs.Names.{register_names}
use Rattle.ascii_scan.specs.Tokens.{Token, mark, tokens, begins_inner, is_mark, is_blank, is_inner}
use Rattle.ascii_scan.proofs.TokenLemmas.{tokens_mark, tokens_blank, tokens_nil}
use Rattle.thumb_syntax.specs.declared.form.OperandPosition.{OperandPosition}
use Rattle.thumb_syntax.specs.declared.form.Slot.{Slot}
use Rattle.thumb_syntax.specs.declared.form.Slot.TheVariants as slot
use Rattle.thumb_syntax.specs.Operands.{Operand, register, base, number, name, operand, is_name}
use Rattle.thumb_syntax.specs.Slots.{listed, Fields, at, put, is_in_list, number_filled, list_filled, taken, filled}
use Rattle.thumb_syntax.specs.Spelling.{register_text, number_text, mark_text, list_text, low_bits, stack_bits, sum_text, label_text, label_sum_text, slot_text, slots_text}
use Rattle.thumb_syntax.specs.Whole.{is_label, is_label_sum}
use Rattle.thumb_syntax.proofs.Words.{word_read, register_read, base_read, number_read, name_read, label_sum_read, sum_operand}
use Rattle.thumb_syntax.proofs.ListText.{low_list_read, lr_list_read, pc_list_read}

abbrev labelled : Fields → Option (List ℕ × ℕ) → Fields
labelled g l = record { first = g.first; second = g.second; third = g.third; label = l }

-- the fields g, after the slot has stored what the fields f have for it
abbrev pub stored_by : Slot → Fields → Fields → Fields
stored_by (slot.Register p) g f = put g p (at f p)
stored_by (slot.Base p) g f = put g p (at f p)
stored_by (slot.Number p least most step) g f = put g p (at f p)
stored_by (slot.LowList p) g f = put g p (at f p)
stored_by (slot.StackList p extra) g f = put g p (at f p)
stored_by slot.Label g f = labelled g f.label
stored_by slot.LabelSum g f = labelled g f.label
stored_by s g f = g

abbrev pub stored : List Slot → Fields → Fields → Fields
stored [] g f = g
stored (s ∷ ss) g f = stored ss (stored_by s g f) f

abbrev pub number_fits : ℕ → ℕ → ℕ → ℕ → Bool
number_fits least most step v = nat_lt 0 step && (nat_le least (v * step) && (nat_le (v * step) most && nat_lt (v * step) (2 ^ 32)))

-- the text that the slot writes for the fields f is read as these
abbrev pub slot_fits : Slot → Fields → Fields → Bool
slot_fits (slot.Register p) g f = nat_lt (at f p) 16
slot_fits (slot.Twice p q) g f = false
slot_fits (slot.Same p) g f = nat_lt (at f p) 16 && (at g p == at f p)
slot_fits (slot.Base p) g f = nat_lt (at f p) 8
slot_fits (slot.Number p least most step) g f = number_fits least most step (at f p)
slot_fits (slot.Exactly n) g f = nat_lt n (2 ^ 32)
slot_fits (slot.Mark m) g f = is_mark m
slot_fits slot.Label g f = is_label f.label
slot_fits slot.LabelSum g f = is_label_sum f.label
slot_fits (slot.LowList p) g f = nat_lt 0 (at f p) && nat_lt (at f p) 256
slot_fits (slot.StackList p extra) g f = (extra == 14 || extra == 15) && (nat_lt 0 (at f p) && nat_lt (at f p) 512)
slot_fits (slot.InList p q) g f = is_in_list (at g p) (at g q)
slot_fits (slot.NotInList p q) g f = not (is_in_list (at g p) (at g q))
slot_fits s g f = true

-- slots without text
abbrev is_silent : List Slot → Bool
is_silent [] = true
is_silent (slot.InList p q ∷ []) = true
is_silent (slot.NotInList p q ∷ []) = true
is_silent ss = false

silent_text : (ss : List Slot) (f : Fields) → is_silent ss ≡ true → slots_text ss f ≡ []
silent_text [] f e = refl
silent_text (slot.InList p q ∷ []) f e = refl
silent_text (slot.NotInList p q ∷ []) f e = refl
silent_text ss f e = absurd (true≢false (sym e))

-- a mark or the end comes next
abbrev is_marked : List Slot → Bool
is_marked [] = true
is_marked (slot.Mark m ∷ ss) = is_mark m
is_marked ss = false

mark_no_blank : (m : ℕ) → is_mark m ≡ true → is_blank m ≡ false
mark_no_blank m e = grind arith

mark_not_inner : (m : ℕ) → is_mark m ≡ true → is_inner m ≡ false
mark_not_inner m e = rw (mark_no_blank m e, e) refl

marked_ends : (ss : List Slot) (f : Fields) → is_marked ss ≡ true → begins_inner (slots_text ss f) ≡ false
marked_ends [] f e = refl
marked_ends (slot.Mark m ∷ ss) f e = elim (cases_Bool (m == 44)) [ inl comma ↦ rw comma refl | inr other ↦ rw (other, mark_not_inner m e) refl ]
marked_ends ss f e = absurd (true≢false (sym e))

abbrev pub follows : Slot → List Slot → Bool
follows (slot.Mark m) ss = true
follows (slot.LowList p) ss = is_silent ss
follows (slot.StackList p extra) ss = is_silent ss
follows (slot.InList p q) ss = true
follows (slot.NotInList p q) ss = true
follows s ss = is_marked ss

-- ---- one slot

-- what a slot consumes of a text
abbrev from_text : Slot → Fields → List ℕ → Option (Fields × List Operand)
from_text s g bs = taken s g (map operand (tokens bs))

abbrev and_rest : Fields → List ℕ → Option (Fields × List Operand)
and_rest g bs = Some (g, map operand (tokens bs))

register_from : (p : OperandPosition) (g : Fields) (r : ℕ) (bs : List ℕ) → nat_lt r 16 ≡ true → begins_inner bs ≡ false → from_text (slot.Register p) g (register_text r ++ bs) ≡ and_rest (put g p r) bs
register_from p g r bs e ends = ap (taken (slot.Register p) g) (word_read (register_text r) bs (register r) (register_read r (ltb-true r 16 e)) ends)

same_from : (p : OperandPosition) (g : Fields) (r : ℕ) (bs : List ℕ) → (nat_lt r 16 && (at g p == r)) ≡ true → begins_inner bs ≡ false → from_text (slot.Same p) g (register_text r ++ bs) ≡ and_rest g bs
same_from p g r bs e ends =
    let parts = and_parts (nat_lt r 16) (at g p == r) e in
    ap (taken (slot.Same p) g) (word_read (register_text r) bs (register r) (register_read r (ltb-true r 16 parts.0)) ends) ∙ rw parts.1 refl

sp_from : (g : Fields) (bs : List ℕ) → begins_inner bs ≡ false → from_text slot.Sp g (codes "sp" ++ bs) ≡ and_rest g bs
sp_from g bs ends = ap (taken slot.Sp g) (word_read (codes "sp") bs (register 13) (register_read 13 (omega arith)) ends)

base_from : (p : OperandPosition) (g : Fields) (r : ℕ) (bs : List ℕ) → nat_lt r 8 ≡ true → begins_inner bs ≡ false → from_text (slot.Base p) g ((register_text r ++ codes "!") ++ bs) ≡ and_rest (put g p r) bs
base_from p g r bs e ends = ap (taken (slot.Base p) g) (word_read (register_text r ++ codes "!") bs (base r) (base_read r (ltb-true r 8 e)) ends)

div-back : (v step : ℕ) → 0 < step → v * step / step ≡ v
div-back v step more = grind arith

number_back : (p : OperandPosition) (g : Fields) (least most step v : ℕ) → number_fits least most step v ≡ true → number_filled g p least most step (v * step) ≡ Some (put g p v)
number_back p g least most step v e =
    let a = and_parts (nat_lt 0 step) (nat_le least (v * step) && (nat_le (v * step) most && nat_lt (v * step) (2 ^ 32))) e in
    let b = and_parts (nat_le least (v * step)) (nat_le (v * step) most && nat_lt (v * step) (2 ^ 32)) a.1 in
    let c = and_parts (nat_le (v * step) most) (nat_lt (v * step) (2 ^ 32)) b.1 in
    let more = ltb-true 0 step a.0 in
    let some = ne_eqb step 0 (λ z. absurd (omega arith)) in
    let low = le-ltb (v * step) least (leb-true least (v * step) b.0) in
    let high = le-ltb most (v * step) (leb-true (v * step) most c.0) in
    let whole = eq-eqb (v * step % step) 0 (mul-mod_left v step) in
    rw (some, low, high, whole) (ap (λ (n : ℕ). Some (put g p n)) (div-back v step more))

number_from : (p : OperandPosition) (g : Fields) (least most step v : ℕ) (bs : List ℕ) → number_fits least most step v ≡ true → begins_inner bs ≡ false
    → from_text (slot.Number p least most step) g (number_text (v * step) ++ bs) ≡ and_rest (put g p v) bs
number_from p g least most step v bs e ends =
    let a = and_parts (nat_lt 0 step) (nat_le least (v * step) && (nat_le (v * step) most && nat_lt (v * step) (2 ^ 32))) e in
    let b = and_parts (nat_le least (v * step)) (nat_le (v * step) most && nat_lt (v * step) (2 ^ 32)) a.1 in
    let c = and_parts (nat_le (v * step) most) (nat_lt (v * step) (2 ^ 32)) b.1 in
    ap (taken (slot.Number p least most step) g) (word_read (number_text (v * step)) bs (number (v * step)) (number_read (v * step) (ltb-true (v * step) (2 ^ 32) c.1)) ends)
    ∙ ap (option_map (λ (h : Fields). (h, map operand (tokens bs)))) (number_back p g least most step v e)

exactly_from : (g : Fields) (n : ℕ) (bs : List ℕ) → nat_lt n (2 ^ 32) ≡ true → begins_inner bs ≡ false → from_text (slot.Exactly n) g (number_text n ++ bs) ≡ and_rest g bs
exactly_from g n bs e ends =
    ap (taken (slot.Exactly n) g) (word_read (number_text n) bs (number n) (number_read n (ltb-true n (2 ^ 32) e)) ends)
    ∙ rw (eq-eqb n n refl) refl

mark_reads : (m : ℕ) (bs : List ℕ) → is_mark m ≡ true → tokens (mark_text m ++ bs) ≡ mark m ∷ tokens bs
mark_reads m bs e = elim (cases_Bool (m == 44)) [
  | inl comma ↦ rw (comma, eqb-true m 44 comma) (tokens_mark 44 (32 ∷ bs) refl refl ∙ ap (λ (ts : List Token). mark 44 ∷ ts) (tokens_blank 32 bs refl))
  | inr other ↦ rw other (tokens_mark m bs (mark_no_blank m e) e)
]

mark_from : (g : Fields) (m : ℕ) (bs : List ℕ) → is_mark m ≡ true → from_text (slot.Mark m) g (mark_text m ++ bs) ≡ and_rest g bs
unfolding operand
mark_from g m bs e = ap (λ (ts : List Token). taken (slot.Mark m) g (map operand ts)) (mark_reads m bs e) ∙ rw (eq-eqb m m refl) refl

-- the words that are options
sy_name : is_name (codes "sy") ≡ true
unfolding register_names
sy_name = refl

i_name : is_name (codes "i") ≡ true
unfolding register_names
i_name = refl

primask_name : is_name (codes "primask") ≡ true
unfolding register_names
primask_name = refl

ipsr_name : is_name (codes "ipsr") ≡ true
unfolding register_names
ipsr_name = refl

sy_from : (g : Fields) (bs : List ℕ) → begins_inner bs ≡ false → from_text slot.Sy g (codes "sy" ++ bs) ≡ and_rest g bs
sy_from g bs ends = ap (taken slot.Sy g) (word_read (codes "sy") bs (name (codes "sy")) (name_read (codes "sy") sy_name) ends)

i_from : (g : Fields) (bs : List ℕ) → begins_inner bs ≡ false → from_text slot.I g (codes "i" ++ bs) ≡ and_rest g bs
i_from g bs ends = ap (taken slot.I g) (word_read (codes "i") bs (name (codes "i")) (name_read (codes "i") i_name) ends)

primask_from : (g : Fields) (bs : List ℕ) → begins_inner bs ≡ false → from_text slot.Primask g (codes "primask" ++ bs) ≡ and_rest g bs
primask_from g bs ends = ap (taken slot.Primask g) (word_read (codes "primask") bs (name (codes "primask")) (name_read (codes "primask") primask_name) ends)

ipsr_from : (g : Fields) (bs : List ℕ) → begins_inner bs ≡ false → from_text slot.Ipsr g (codes "ipsr" ++ bs) ≡ and_rest g bs
ipsr_from g bs ends = ap (taken slot.Ipsr g) (word_read (codes "ipsr") bs (name (codes "ipsr")) (name_read (codes "ipsr") ipsr_name) ends)

label_from : (g : Fields) (l : Option (List ℕ × ℕ)) (bs : List ℕ) → is_label l ≡ true → begins_inner bs ≡ false → from_text slot.Label g (label_text l ++ bs) ≡ and_rest (labelled g l) bs
label_from g None bs e ends = absurd (true≢false (sym e))
label_from g (Some l) bs e ends =
    let parts = and_parts (is_name l.0) (l.1 == 0) e in
    ap (taken slot.Label g) (word_read l.0 bs (name l.0) (name_read l.0 parts.0) ends)
    ∙ ap (λ (n : ℕ). and_rest (labelled g (Some (l.0, n))) bs) (sym (eqb-true l.1 0 parts.1))

sum_taken : (g : Fields) (w : List ℕ) (n : ℕ) (os : List Operand) → taken slot.LabelSum g (sum_operand w n ∷ os) ≡ Some (labelled g (Some (w, n)), os)
sum_taken g w n os = elim (cases_Bool (n == 0)) [
  | inl none ↦ rw none (ap (λ (m : ℕ). Some (labelled g (Some (w, m)), os)) (sym (eqb-true n 0 none)))
  | inr some ↦ rw some refl
]

label_sum_from : (g : Fields) (l : Option (List ℕ × ℕ)) (bs : List ℕ) → is_label_sum l ≡ true → begins_inner bs ≡ false → from_text slot.LabelSum g (label_sum_text l ++ bs) ≡ and_rest (labelled g l) bs
label_sum_from g None bs e ends = absurd (true≢false (sym e))
label_sum_from g (Some l) bs e ends =
    let parts = and_parts (is_name l.0) (nat_lt l.1 (2 ^ 32)) e in
    ap (taken slot.LabelSum g) (word_read (sum_text l.0 l.1) bs (sum_operand l.0 l.1) (label_sum_read l.0 l.1 parts.0 (ltb-true l.1 (2 ^ 32) parts.1)) ends)
    ∙ sum_taken g l.0 l.1 (map operand (tokens bs))

-- the text of a list comes last
at_end : (w bs : List ℕ) → bs ≡ [] → w ++ bs ≡ w
at_end w bs e = ap (λ (x : List ℕ). w ++ x) e ∙ append-nil w

no_rest : (g : Fields) (bs : List ℕ) → bs ≡ [] → Some (g, []) ≡ and_rest g bs
no_rest g bs e = ap (λ (ts : List Token). Some (g, map operand ts)) (sym tokens_nil) ∙ ap (and_rest g) (sym e)

low_list_from : (p : OperandPosition) (g : Fields) (n : ℕ) (bs : List ℕ) → (nat_lt 0 n && nat_lt n 256) ≡ true → bs ≡ [] → from_text (slot.LowList p) g (list_text 14 n low_bits ++ bs) ≡ and_rest (put g p n) bs
low_list_from p g n bs e ends =
    let parts = and_parts (nat_lt 0 n) (nat_lt n 256) e in
    ap (from_text (slot.LowList p) g) (at_end (list_text 14 n low_bits) bs ends)
    ∙ ap (list_filled g p) (low_list_read n (ltb-true 0 n parts.0) (ltb-true n 256 parts.1))
    ∙ no_rest (put g p n) bs ends

stack_list_read : (extra n : ℕ) → (extra == 14 || extra == 15) ≡ true → 0 < n → n < 512 → listed (Some extra) (map operand (tokens (list_text extra n stack_bits))) ≡ Some (n, [])
stack_list_read extra n e more small = elim (or_cases (extra == 14) (extra == 15) e) [
  | inl lr ↦ rw (eqb-true extra 14 lr) (lr_list_read n more small)
  | inr pc ↦ rw (eqb-true extra 15 pc) (pc_list_read n more small)
]

stack_list_from : (p : OperandPosition) (extra : ℕ) (g : Fields) (n : ℕ) (bs : List ℕ) → ((extra == 14 || extra == 15) && (nat_lt 0 n && nat_lt n 512)) ≡ true → bs ≡ []
    → from_text (slot.StackList p extra) g (list_text extra n stack_bits ++ bs) ≡ and_rest (put g p n) bs
stack_list_from p extra g n bs e ends =
    let which = and_parts (extra == 14 || extra == 15) (nat_lt 0 n && nat_lt n 512) e in
    let parts = and_parts (nat_lt 0 n) (nat_lt n 512) which.1 in
    ap (from_text (slot.StackList p extra) g) (at_end (list_text extra n stack_bits) bs ends)
    ∙ ap (list_filled g p) (stack_list_read extra n which.0 (ltb-true 0 n parts.0) (ltb-true n 512 parts.1))
    ∙ no_rest (put g p n) bs ends

slot_from : (s : Slot) (ss : List Slot) (g f : Fields) → slot_fits s g f ≡ true → follows s ss ≡ true → from_text s g (slot_text s f ++ slots_text ss f) ≡ and_rest (stored_by s g f) (slots_text ss f)
slot_from (slot.Register p) ss g f e n = register_from p g (at f p) (slots_text ss f) e (marked_ends ss f n)
slot_from (slot.Twice p q) ss g f e n = absurd (true≢false (sym e))
slot_from (slot.Same p) ss g f e n = same_from p g (at f p) (slots_text ss f) e (marked_ends ss f n)
slot_from slot.Sp ss g f e n = sp_from g (slots_text ss f) (marked_ends ss f n)
slot_from (slot.Base p) ss g f e n = base_from p g (at f p) (slots_text ss f) e (marked_ends ss f n)
slot_from (slot.Number p least most step) ss g f e n = number_from p g least most step (at f p) (slots_text ss f) e (marked_ends ss f n)
slot_from (slot.Exactly m) ss g f e n = exactly_from g m (slots_text ss f) e (marked_ends ss f n)
slot_from (slot.Mark m) ss g f e n = mark_from g m (slots_text ss f) e
slot_from slot.Sy ss g f e n = sy_from g (slots_text ss f) (marked_ends ss f n)
slot_from slot.I ss g f e n = i_from g (slots_text ss f) (marked_ends ss f n)
slot_from slot.Primask ss g f e n = primask_from g (slots_text ss f) (marked_ends ss f n)
slot_from slot.Ipsr ss g f e n = ipsr_from g (slots_text ss f) (marked_ends ss f n)
slot_from slot.Label ss g f e n = label_from g f.label (slots_text ss f) e (marked_ends ss f n)
slot_from slot.LabelSum ss g f e n = label_sum_from g f.label (slots_text ss f) e (marked_ends ss f n)
slot_from (slot.LowList p) ss g f e n = low_list_from p g (at f p) (slots_text ss f) e (silent_text ss f n)
slot_from (slot.StackList p extra) ss g f e n = stack_list_from p extra g (at f p) (slots_text ss f) e (silent_text ss f n)
slot_from (slot.InList p q) ss g f e n = rw e refl
slot_from (slot.NotInList p q) ss g f e n = rw (not-true (is_in_list (at g p) (at g q)) e) refl

-- ---- all slots

-- the text of the fields f is read as these
abbrev pub slots_fit : List Slot → Fields → Fields → Bool
slots_fit [] g f = true
slots_fit (s ∷ ss) g f = slot_fits s g f && (follows s ss && slots_fit ss (stored_by s g f) f)

pub written_fills : (ss : List Slot) (g f : Fields) → slots_fit ss g f ≡ true → filled ss g (map operand (tokens (slots_text ss f))) ≡ Some (stored ss g f)
written_fills [] g f e = ap (λ (ts : List Token). filled [] g (map operand ts)) tokens_nil
written_fills (s ∷ ss) g f e =
    let a = and_parts (slot_fits s g f) (follows s ss && slots_fit ss (stored_by s g f) f) e in
    let b = and_parts (follows s ss) (slots_fit ss (stored_by s g f) f) a.1 in
    ap (option_and_then (λ (r : Fields × List Operand). filled ss r.0 r.1)) (slot_from s ss g f a.0 b.0)
    ∙ written_fills ss (stored_by s g f) f b.1
