-- What is read is an instruction with the label that its text names: `is_whole` holds of it.
use Rattle.std.proofs.Common.{◌≡◌, ◌∙◌, inl, inr, ℕ, zero, suc, ◌<◌, ◌^◌, ◌&&◌, ◌==◌, Bool, true, false, List, [], ◌∷◌, map, length, Option, Some, None, refl, sym, ap, subst, arith, true≢false, eq-eqb, eqb-true, lt-ltb}
use Rattle.std.specs.Prelude.{if◌then◌else◌, nat_lt, slice_get}
use Rattle.std.specs.List.{list_all}
use Rattle.std.specs.Char.{is_digit}
use Rattle.std.specs.Str.Parse.{digits_value}
use Rattle.std.proofs.lemmas.Bool.{cases_Bool, and_parts, and_from, ltb-true}
use Rattle.thumb_instr.specs.declared.instr.Instr.{Instr}
use Rattle.thumb_instr.specs.declared.instr.Instr.TheVariants as instr
use Rattle.ascii_scan.specs.Numeral.{numeral, numeral_by, in_base, hexadecimal, decimal, has_leading_zero}
use Rattle.ascii_scan.specs.Tokens.{Token, word, mark, tokens, front, rest}
use Rattle.thumb_syntax.specs.declared.form.OperandPosition.{OperandPosition}
use Rattle.thumb_syntax.specs.declared.form.OperandPosition.TheVariants as position
use Rattle.thumb_syntax.specs.declared.form.Slot.{Slot}
use Rattle.thumb_syntax.specs.declared.form.Slot.TheVariants as slot
use Rattle.thumb_instr.specs.declared.kind.Kind.{Kind}
use Rattle.thumb_instr.specs.declared.kind.Kind.TheVariants as kind
use Rattle.thumb_syntax.specs.Operands.{register_named, Operand, register, base, number, sign, name, sum, operand, of_word, plain, numbered, or_stray, sum_of, range_to, after_register, after_name, is_plain, is_name}
use Rattle.thumb_syntax.specs.Slots.{listed, Fields, empty, at, put, named, is_in_list, filled_by, list_filled, taken, filled}
use Rattle.thumb_instr.specs.declared.kind.Parts.{Parts}
use Rattle.thumb_instr.specs.declared.role.Role.{Role}
use Rattle.thumb_instr.specs.declared.role.Role.TheVariants as role
use Rattle.thumb_instr.specs.Parts.{made, parts_of, is_instr, kept, kept_of}
use Rattle.thumb_instr.specs.Roles.{roles}
use Rattle.thumb_instr.proofs.PartLemmas.{made_kind, when_some}
use Rattle.thumb_syntax.specs.Rows.{Row, Shown, data_rows, memory_rows, control_rows, shown_with}
use Rattle.thumb_syntax.specs.RowLaws.{rows, by_row}
use Rattle.thumb_syntax.specs.Whole.{is_label, is_label_sum, is_unlabelled, is_whole, ReadingIsWhole}
use Rattle.thumb_syntax.proofs.Steps.{and_then_some, map_some, kept_some, took, none_left, number_put, register_filled, mark_filled}
use Rattle.thumb_syntax.proofs.Overlap.{Read, read_by}
use Rattle.thumb_syntax.proofs.RowRelation.{reads_some_row}

-- ---- names among operands

abbrev is_proper : Operand → Bool
is_proper (name w) = is_name w
is_proper (sum w i) = is_name w && nat_lt i (2 ^ 32)
is_proper o = true

in_base_small : (b : ℕ) (ds : List ℕ) (i : ℕ) → in_base b ds ≡ Some i → i < 2 ^ 32
in_base_small b ds i e = elim (cases_Bool (nat_lt 0 (length ds) && list_all (λ d. is_digit d b) ds && nat_lt (digits_value b ds) (2 ^ 32))) [
  | inl yes' ↦ (
      let some : Some (digits_value b ds) ≡ Some i = rw yes' at e in
      let same : digits_value b ds ≡ i = cc in
      let one = and_parts (nat_lt 0 (length ds) && list_all (λ d. is_digit d b) ds) (nat_lt (digits_value b ds) (2 ^ 32)) yes' in
      subst (λ (n : ℕ). n < 2 ^ 32) same (ltb-true (digits_value b ds) (2 ^ 32) one.1))
  | inr no' ↦ absurd (let none : None ≡ Some i = rw no' at e in cc)
]

decimal_small : (bs : List ℕ) (i : ℕ) → decimal bs ≡ Some i → i < 2 ^ 32
decimal_small bs i e = elim (cases_Bool (has_leading_zero bs)) [
  | inl yes' ↦ absurd (let none : None ≡ Some i = rw yes' at e in cc)
  | inr no' ↦ in_base_small 10 bs i (rw no' at e)
]

numeral_small : (bs : List ℕ) (o : Option (List ℕ)) (i : ℕ) → numeral_by bs o ≡ Some i → i < 2 ^ 32
numeral_small bs None i e = decimal_small bs i e
numeral_small bs (Some ds) i e = in_base_small 16 ds i e

sum_proper : (f : List ℕ) (o : Option ℕ) → is_name f ≡ true → ((i : ℕ) → o ≡ Some i → i < 2 ^ 32) → is_proper (sum_of f o) ≡ true
sum_proper f None e small = refl
sum_proper f (Some i) e small = and_from (is_name f) (nat_lt i (2 ^ 32)) e (lt-ltb i (2 ^ 32) (small i refl))

after_name_proper : (f after : List ℕ) → is_name f ≡ true → is_proper (after_name f after) ≡ true
after_name_proper f [] e = e
after_name_proper f (b ∷ bs) e = elim (cases_Bool (b == 43)) [
  | inl yes' ↦ rw yes' (sum_proper f (numeral bs) e (numeral_small bs (hexadecimal bs)))
  | inr no' ↦ rw no' refl
]

or_stray_proper : (o : Option ℕ) → is_proper (or_stray o) ≡ true
or_stray_proper None = refl
or_stray_proper (Some n) = refl

numbered_proper : (w : List ℕ) → is_proper (numbered w) ≡ true
numbered_proper [] = refl
numbered_proper (b ∷ bs) = elim (cases_Bool (b == 35)) [ inl yes' ↦ rw yes' (or_stray_proper (numeral bs)) | inr no' ↦ rw no' refl ]

range_proper : (a : ℕ) (o : Option ℕ) → is_proper (range_to a o) ≡ true
range_proper a None = refl
range_proper a (Some b) = refl

register_proper : (r : ℕ) (after : List ℕ) → is_proper (after_register r after) ≡ true
register_proper r [] = refl
register_proper r (b ∷ []) = elim (cases_Bool (b == 33)) [ inl yes' ↦ rw yes' refl | inr no' ↦ rw no' refl ]
register_proper r (b ∷ c ∷ bs) = elim (cases_Bool (b == 45)) [ inl yes' ↦ rw yes' (range_proper r (register_named (c ∷ bs))) | inr no' ↦ rw no' refl ]

plain_proper : (w f after : List ℕ) → is_proper (plain w f after) ≡ true
plain_proper w f after = elim (cases_Bool (is_name f)) [
  | inl yes' ↦ rw yes' (after_name_proper f after yes')
  | inr no' ↦ rw no' (numbered_proper w)
]

word_proper : (o : Option ℕ) (w f after : List ℕ) → is_proper (of_word o w f after) ≡ true
word_proper (Some r) w f after = register_proper r after
word_proper None w f after = plain_proper w f after

operand_proper : (t : Token) → is_proper (operand t) ≡ true
unfolding operand
operand_proper (word w) = word_proper (register_named (front is_plain w)) w (front is_plain w) (rest is_plain w)
operand_proper (mark m) = refl

all_proper : (ts : List Token) → list_all is_proper (map operand ts) ≡ true
all_proper [] = refl
all_proper (t ∷ ts) = and_from (is_proper (operand t)) (list_all is_proper (map operand ts)) (operand_proper t) (all_proper ts)

-- ---- the label of filled slots

abbrev keeps_label : Slot → Bool
keeps_label slot.Label = false
keeps_label slot.LabelSum = false
keeps_label s = true

put_label : (g : Fields) (p : OperandPosition) (n : ℕ) → (put g p n).label ≡ g.label
put_label g position.First n = refl
put_label g position.Second n = refl
put_label g position.Third n = refl

since : (g h : Fields) → g ≡ h → h.label ≡ g.label
since g h e = ap (λ (x : Fields). x.label) (sym e)

label_filled : (s : Slot) (g : Fields) (o : Operand) (h : Fields) → keeps_label s ≡ true → filled_by s g o ≡ Some h → h.label ≡ g.label
label_filled (slot.Register p) g (register r) h k e = since (put g p r) h (cc) ∙ put_label g p r
label_filled (slot.Twice p q) g (register r) h k e = since (put (put g p r) q r) h (cc) ∙ put_label (put g p r) q r ∙ put_label g p r
label_filled (slot.Same p) g (register r) h k e = since g h (kept_some (at g p == r) g h e).1
label_filled slot.Sp g (register r) h k e = since g h (kept_some (r == 13) g h e).1
label_filled (slot.Base p) g (base r) h k e = since (put g p r) h (cc) ∙ put_label g p r
label_filled (slot.Number p least most step) g (number n) h k e =
    let m = number_put p least most step g (number n) h e in
    since (put g p m.0) h m.1 ∙ put_label g p m.0
label_filled (slot.Exactly m) g (number n) h k e = since g h (kept_some (n == m) g h e).1
label_filled (slot.Mark m) g (sign s) h k e = since g h (kept_some (m == s) g h e).1
label_filled slot.Sy g (name x) h k e = since g h (kept_some _ g h e).1
label_filled slot.I g (name x) h k e = since g h (kept_some _ g h e).1
label_filled slot.Primask g (name x) h k e = since g h (kept_some _ g h e).1
label_filled slot.Ipsr g (name x) h k e = since g h (kept_some _ g h e).1
label_filled slot.Label g o h k e = absurd (true≢false (sym k))
label_filled slot.LabelSum g o h k e = absurd (true≢false (sym k))
label_filled s g o h k e = absurd (cc)

list_label : (g : Fields) (p : OperandPosition) (found : Option (ℕ × List Operand)) (r : Fields × List Operand) → list_filled g p found ≡ Some r → r.0.label ≡ g.label
list_label g p found r e =
    let m = map_some found (λ (x : ℕ × List Operand). (put g p x.0, x.1)) r e in
    ap (λ (x : Fields × List Operand). x.0.label) (sym m.2) ∙ put_label g p m.0.0

label_kept : (ss : List Slot) (g : Fields) (os : List Operand) (x : Fields) → list_all keeps_label ss ≡ true → filled ss g os ≡ Some x → x.label ≡ g.label
label_kept [] g os x k e = since g x (none_left g os x e).1
label_kept (slot.LowList p ∷ ss) g os x k e =
    let step = and_then_some (taken (slot.LowList p) g os) (λ (r : Fields × List Operand). filled ss r.0 r.1) x e in
    label_kept ss step.0.0 step.0.1 x k step.2 ∙ list_label g p (listed None os) step.0 step.1
label_kept (slot.StackList p extra ∷ ss) g os x k e =
    let step = and_then_some (taken (slot.StackList p extra) g os) (λ (r : Fields × List Operand). filled ss r.0 r.1) x e in
    label_kept ss step.0.0 step.0.1 x k step.2 ∙ list_label g p (listed (Some extra) os) step.0 step.1
label_kept (slot.InList p q ∷ ss) g os x k e = elim (cases_Bool (is_in_list (at g p) (at g q))) [
  | inl yes' ↦ label_kept ss g os x k (rw yes' at e)
  | inr no' ↦ absurd (let none : None ≡ Some x = rw no' at e in cc)
]
label_kept (slot.NotInList p q ∷ ss) g os x k e = elim (cases_Bool (is_in_list (at g p) (at g q))) [
  | inl yes' ↦ absurd (let none : None ≡ Some x = rw yes' at e in cc)
  | inr no' ↦ label_kept ss g os x k (rw no' at e)
]
label_kept (s ∷ ss) g os x k e =
    let parts = and_parts (keeps_label s) (list_all keeps_label ss) k in
    let t = took s ss g os x refl e in
    label_kept ss t.fields t.after x parts.1 t.filled ∙ label_filled s g t.operand t.fields parts.0 t.fields_view

label_put : (g : Fields) (o : Operand) (h : Fields) → is_proper o ≡ true → filled_by slot.Label g o ≡ Some h → is_label h.label ≡ true
label_put g (name w) h p e =
    let same : named g w 0 ≡ h = cc in
    subst (λ (x : Fields). is_label x.label ≡ true) same (and_from (is_name w) true p refl)
label_put g o h p e = absurd (cc)

label_sum_put : (g : Fields) (o : Operand) (h : Fields) → is_proper o ≡ true → filled_by slot.LabelSum g o ≡ Some h → is_label_sum h.label ≡ true
label_sum_put g (name w) h p e =
    let same : named g w 0 ≡ h = cc in
    subst (λ (x : Fields). is_label_sum x.label ≡ true) same (and_from (is_name w) true p refl)
label_sum_put g (sum w i) h p e =
    let same : named g w i ≡ h = cc in
    subst (λ (x : Fields). is_label_sum x.label ≡ true) same p
label_sum_put g o h p e = absurd (cc)

first_proper : (os : List Operand) (o : Operand) (ps : List Operand) → os ≡ o ∷ ps → list_all is_proper os ≡ true → (is_proper o ≡ true) × (list_all is_proper ps ≡ true)
first_proper os o ps e all = and_parts (is_proper o) (list_all is_proper ps) (subst (λ (x : List Operand). list_all is_proper x ≡ true) e all)

label_from : (g : Fields) (os : List Operand) (x : Fields) → list_all is_proper os ≡ true → filled (slot.Label ∷ []) g os ≡ Some x → is_label x.label ≡ true
label_from g os x all e =
    let t = took slot.Label [] g os x refl e in
    let p = first_proper os t.operand t.after t.is all in
    subst (λ (y : Fields). is_label y.label ≡ true) (none_left t.fields t.after x t.filled).1 (label_put g t.operand t.fields p.0 t.fields_view)

label_sum_from : (p : OperandPosition) (m : ℕ) (g : Fields) (os : List Operand) (x : Fields) → list_all is_proper os ≡ true → filled (slot.Register p ∷ slot.Mark m ∷ slot.LabelSum ∷ []) g os ≡ Some x → is_label_sum x.label ≡ true
label_sum_from p m g os x all e =
    let a = took (slot.Register p) (slot.Mark m ∷ slot.LabelSum ∷ []) g os x refl e in
    let b = took (slot.Mark m) (slot.LabelSum ∷ []) a.fields a.after x refl a.filled in
    let c = took slot.LabelSum [] b.fields b.after x refl b.filled in
    let u = first_proper os a.operand a.after a.is all in
    let v = first_proper a.after b.operand b.after b.is u.1 in
    let w = first_proper b.after c.operand c.after c.is v.1 in
    subst (λ (y : Fields). is_label_sum y.label ≡ true) (none_left c.fields c.after x c.filled).1 (label_sum_put b.fields c.operand c.fields w.0 c.fields_view)

-- ---- a form names a label exactly where its kind does

-- 0: no label; 1: a label; 2: a label with an added number
abbrev label_of : Kind → ℕ
label_of kind.Literal = 2
label_of kind.Address = 2
label_of (kind.BranchIf c) = 1
label_of kind.Branch = 1
label_of kind.Call = 1
label_of k = 0

abbrev slots_label : List Slot → ℕ
slots_label (slot.Label ∷ []) = 1
slots_label (slot.Register position.First ∷ slot.Mark m ∷ slot.LabelSum ∷ []) = 2
slots_label ss = if list_all keeps_label ss then 0 else 3

abbrev is_fitting : ℕ → Option (List ℕ × ℕ) → Bool
is_fitting zero l = is_unlabelled l
is_fitting (suc zero) l = is_label l
is_fitting (suc (suc n)) l = is_label_sum l

unlabelled_from : (ss : List Slot) (os : List Operand) (x : Fields) → list_all keeps_label ss ≡ true → filled ss empty os ≡ Some x → is_unlabelled x.label ≡ true
unlabelled_from ss os x k e = ap is_unlabelled (label_kept ss empty os x k e)

other_slots : (ss : List Slot) (os : List Operand) (x : Fields) (n : ℕ) → n < 3 → (if list_all keeps_label ss then 0 else 3) ≡ n → filled ss empty os ≡ Some x → is_fitting n x.label ≡ true
other_slots ss os x n less e h = elim (cases_Bool (list_all keeps_label ss)) [
  | inl yes' ↦ (
      let none : 0 ≡ n = rw yes' at e in
      subst (λ (k : ℕ). is_fitting k x.label ≡ true) none (unlabelled_from ss os x yes' h))
  | inr no' ↦ absurd (let three : 3 ≡ n = rw no' at e in omega arith)
]

fitting_from : (ss : List Slot) (os : List Operand) (x : Fields) (n : ℕ) → n < 3 → list_all is_proper os ≡ true → slots_label ss ≡ n → filled ss empty os ≡ Some x → is_fitting n x.label ≡ true
fitting_from (slot.Label ∷ []) os x n less all e h = subst (λ (k : ℕ). is_fitting k x.label ≡ true) e (label_from empty os x all h)
fitting_from (slot.Register position.First ∷ slot.Mark m ∷ slot.LabelSum ∷ []) os x n less all e h = subst (λ (k : ℕ). is_fitting k x.label ≡ true) e (label_sum_from position.First m empty os x all h)
fitting_from ss os x n less all e h = other_slots ss os x n less e h

abbrev is_alike : Row → Bool
is_alike r = slots_label r.slots == label_of r.kind

all_alike : list_all is_alike rows ≡ true
unfolding rows data_rows memory_rows control_rows
all_alike = refl

alike_in : (rs : List Row) (k : ℕ) (r : Row) → list_all is_alike rs ≡ true → slice_get rs k ≡ Some r → is_alike r ≡ true
alike_in [] k r all e = absurd (cc)
alike_in (x ∷ xs) zero r all e = let s : x ≡ r = cc in subst (λ (y : Row). is_alike y ≡ true) s (and_parts (is_alike x) (list_all is_alike xs) all).0
alike_in (x ∷ xs) (suc k) r all e = alike_in xs k r (and_parts (is_alike x) (list_all is_alike xs) all).1 e

few_labels : (k : Kind) → label_of k < 3
few_labels kind.Literal = omega arith
few_labels k = omega arith

-- ---- an instruction that names a label has distance 0

-- the distance field of an instruction that names a label
abbrev distance : ℕ → ℕ → ℕ → ℕ
distance zero a b = 0
distance (suc zero) a b = a
distance (suc (suc n)) a b = b

label_first : (o : Operand) (h : Fields) → filled_by slot.Label empty o ≡ Some h → h.first ≡ 0
label_first (name w) h e = let same : named empty w 0 ≡ h = cc in ap (λ (x : Fields). x.first) (sym same)
label_first o h e = absurd (cc)

sum_second : (g : Fields) (o : Operand) (h : Fields) → filled_by slot.LabelSum g o ≡ Some h → h.second ≡ g.second
sum_second g (name w) h e = let same : named g w 0 ≡ h = cc in ap (λ (x : Fields). x.second) (sym same)
sum_second g (sum w i) h e = let same : named g w i ≡ h = cc in ap (λ (x : Fields). x.second) (sym same)
sum_second g o h e = absurd (cc)

other_distance : (ss : List Slot) (x : Fields) (n : ℕ) → n < 3 → (if list_all keeps_label ss then 0 else 3) ≡ n → distance n x.first x.second ≡ 0
other_distance ss x n less e = elim (cases_Bool (list_all keeps_label ss)) [
  | inl yes' ↦ (
      let none : 0 ≡ n = rw yes' at e in
      subst (λ (k : ℕ). distance k x.first x.second ≡ 0) none refl)
  | inr no' ↦ absurd (let three : 3 ≡ n = rw no' at e in omega arith)
]

no_distance : (ss : List Slot) (os : List Operand) (x : Fields) (n : ℕ) → n < 3 → slots_label ss ≡ n → filled ss empty os ≡ Some x → distance n x.first x.second ≡ 0
no_distance (slot.Label ∷ []) os x n less e h =
    let t = took slot.Label [] empty os x refl h in
    subst (λ (k : ℕ). distance k x.first x.second ≡ 0) e
    (subst (λ (y : Fields). y.first ≡ 0) (none_left t.fields t.after x t.filled).1 (label_first t.operand t.fields t.fields_view))
no_distance (slot.Register position.First ∷ slot.Mark m ∷ slot.LabelSum ∷ []) os x n less e h =
    let a = took (slot.Register position.First) (slot.Mark m ∷ slot.LabelSum ∷ []) empty os x refl h in
    let b = took (slot.Mark m) (slot.LabelSum ∷ []) a.fields a.after x refl a.filled in
    let c = took slot.LabelSum [] b.fields b.after x refl b.filled in
    let put_first = (register_filled position.First empty a.operand a.fields a.fields_view).2 in
    let same = (mark_filled m a.fields b.operand b.fields b.fields_view).1 in
    let none : c.fields.second ≡ 0 = sum_second b.fields c.operand c.fields c.fields_view ∙ sym (ap (λ (y : Fields). y.second) same) ∙ sym (ap (λ (y : Fields). y.second) put_first) in
    subst (λ (k : ℕ). distance k x.first x.second ≡ 0) e
    (subst (λ (y : Fields). y.second ≡ 0) (none_left c.fields c.after x c.filled).1 none)
no_distance ss os x n less e h = other_distance ss x n less e

kept_none : (r : Role) (a : ℕ) → a ≡ 0 → kept r a ≡ 0
kept_none role.Nothing a e = refl
kept_none r a e = e

kept_distance : (n : ℕ) (k : Kind) (a b c : ℕ) (m : Parts) → made k a b c ≡ Some m → distance n a b ≡ 0 → distance n m.first m.second ≡ 0
kept_distance n k a b c m e d =
    let same = (when_some (is_instr k a b c) (kept_of (roles k) k a b c) m e).1 in
    subst (λ (x : Parts). distance n x.first x.second ≡ 0) same (by_number n d)
  where
    by_number : (n : ℕ) → distance n a b ≡ 0 → distance n (kept (roles k).first a) (kept (roles k).second b) ≡ 0
    by_number zero d = refl
    by_number (suc zero) d = kept_none (roles k).first a d
    by_number (suc (suc n)) d = kept_none (roles k).second b d

whole_from : (i : Instr) (l : Option (List ℕ × ℕ)) → distance (label_of (parts_of i).kind) (parts_of i).first (parts_of i).second ≡ 0 → is_fitting (label_of (parts_of i).kind) l ≡ true → is_whole i l ≡ true
whole_from (instr.Literal t i) l d f = and_from (i.number == 0) (is_label_sum l) (eq-eqb i.number 0 d) f
whole_from (instr.Address t i) l d f = and_from (i.number == 0) (is_label_sum l) (eq-eqb i.number 0 d) f
whole_from (instr.BranchIf c i) l d f = and_from (i.field == 0) (is_label l) (eq-eqb i.field 0 d) f
whole_from (instr.Branch i) l d f = and_from (i.field == 0) (is_label l) (eq-eqb i.field 0 d) f
whole_from (instr.Call i) l d f = and_from (i.field == 0) (is_label l) (eq-eqb i.field 0 d) f
whole_from i l d f = f

row_whole : (w : List ℕ) (os : List Operand) (k : ℕ) (r : Row) (i : Instr) (l : Option (List ℕ × ℕ)) → list_all is_proper os ≡ true → slice_get rows k ≡ Some r → Read w os r (shown_with i l) → is_whole i l ≡ true
row_whole w os k r i l all there u =
    let m : u.instr ≡ parts_of i = ap (λ (s : Shown). s.made) u.shown in
    let same : u.fields.label ≡ l = ap (λ (s : Shown). s.label) u.shown in
    let is : made r.kind u.fields.first u.fields.second u.fields.third ≡ Some (parts_of i) = u.made ∙ ap (λ (n : Parts). Some n) m in
    let kinds : (parts_of i).kind ≡ r.kind = made_kind r.kind _ _ _ (parts_of i) is in
    let alike = eqb-true (slots_label r.slots) (label_of r.kind) (alike_in rows k r all_alike there) in
    let fit : is_fitting (label_of r.kind) u.fields.label ≡ true = fitting_from r.slots os u.fields (label_of r.kind) (few_labels r.kind) all alike u.filled in
    whole_from i l
    (subst (λ (x : Kind). distance (label_of x) (parts_of i).first (parts_of i).second ≡ 0) (sym kinds)
    (kept_distance (label_of r.kind) r.kind u.fields.first u.fields.second u.fields.third (parts_of i) is (no_distance r.slots os u.fields (label_of r.kind) (few_labels r.kind) alike u.filled)))
    (subst (λ (x : Kind). is_fitting (label_of x) l ≡ true) (sym kinds) (subst (λ (x : Option (List ℕ × ℕ)). is_fitting (label_of r.kind) x ≡ true) same fit))

by_row_whole : (ts : List Token) (k : ℕ) (r : Row) (i : Instr) (l : Option (List ℕ × ℕ)) → slice_get rows k ≡ Some r → by_row r ts ≡ Some (shown_with i l) → is_whole i l ≡ true
by_row_whole [] k r i l there e = absurd (cc)
by_row_whole (mark m ∷ ts) k r i l there e = absurd (cc)
by_row_whole (word w ∷ ts) k r i l there e = row_whole w (map operand ts) k r i l (all_proper ts) there (read_by w (map operand ts) r (shown_with i l) e)

pub reading_is_whole : ReadingIsWhole
reading_is_whole bytes i l e =
    let r = (reads_some_row bytes (shown_with i l)).0 e in
    by_row_whole (tokens bytes) r.place r.row i l r.is_there r.reads
