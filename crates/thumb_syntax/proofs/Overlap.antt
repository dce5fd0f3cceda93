-- No two forms read one text as different instructions.
use Rattle.std.proofs.Common.{◌≡◌, ◌∙◌, inl, inr, ℕ, zero, suc, ◌<◌, ◌&&◌, ◌||◌, ◌==◌, Bool, true, false, not, List, [], ◌∷◌, map, Option, Some, None, refl, sym, ap, subst, arith, true≢false, eqb-true, eq-eqb}
use Rattle.std.specs.Prelude.{nat_lt, nat_le, slice_get, codes}
use Rattle.std.specs.List.{list_all}
use Rattle.std.specs.Str.{bytes_eq}
use Rattle.std.specs.Char.{to_ascii_lowercase}
use Rattle.std.proofs.lemmas.Bool.{cases_Bool, cases_order, and_parts, or_cases, ltb-true, lt-ltb}
use Rattle.std.proofs.lemmas.Slice.Eq.{bytes_eq-Decides}
use Rattle.thumb_instr.specs.declared.operation.Operation.TheVariants as operation
use Rattle.ascii_scan.specs.Names.{is_spelled}
use Rattle.thumb_syntax.specs.declared.form.OperandPosition.{OperandPosition}
use Rattle.thumb_syntax.specs.declared.form.OperandPosition.TheVariants as position
use Rattle.thumb_syntax.specs.declared.form.Slot.{Slot}
use Rattle.thumb_syntax.specs.declared.form.Slot.TheVariants as slot
use Rattle.thumb_instr.specs.declared.kind.Kind.{Kind}
use Rattle.thumb_instr.specs.declared.kind.Kind.TheVariants as kind
use Rattle.thumb_syntax.specs.Operands.{Operand, register, name}
use Rattle.thumb_instr.specs.declared.kind.Parts.{Parts}
use Rattle.thumb_instr.specs.Parts.{made, is_low, are_low, are_registers}
use Rattle.thumb_instr.proofs.PartLemmas.{when_some}
use Rattle.thumb_syntax.specs.Slots.{Fields, empty, at, put, filled_by, filled}
use Rattle.thumb_syntax.specs.OperandForms.{first, second, same}
use Rattle.thumb_syntax.specs.Rows.{Row, Shown, with_label, shown_by, read_as, data_rows, memory_rows, control_rows}
use Rattle.thumb_syntax.specs.RowLaws.{rows}
use Rattle.thumb_syntax.specs.Agreeing.{takes_one}
use Rattle.thumb_syntax.proofs.Steps.{and_then_some, map_some, kept_some, took, none_left, class, same_class, register_filled, same_filled, sp_filled, mark_filled, least_of, most_of, number_between, is_number, number_put}

-- ---- a field that a slot leaves unchanged

abbrev differs : OperandPosition → OperandPosition → Bool
differs position.First position.First = false
differs position.Second position.Second = false
differs position.Third position.Third = false
differs p q = true

put_elsewhere : (p q : OperandPosition) (f : Fields) (n : ℕ) → differs p q ≡ true → at (put f q n) p ≡ at f p
put_elsewhere position.First position.First f n e = absurd (true≢false (sym e))
put_elsewhere position.Second position.Second f n e = absurd (true≢false (sym e))
put_elsewhere position.Third position.Third f n e = absurd (true≢false (sym e))
put_elsewhere p q f n e = refl

put_there : (p : OperandPosition) (f : Fields) (n : ℕ) → at (put f p n) p ≡ n
put_there position.First f n = refl
put_there position.Second f n = refl
put_there position.Third f n = refl

abbrev leaves : OperandPosition → Slot → Bool
leaves p slot.Sp = true
leaves p (slot.Mark m) = true
leaves p (slot.Number q least most step) = differs p q
leaves p s = false

leaves_takes : (p : OperandPosition) (s : Slot) → leaves p s ≡ true → takes_one s ≡ true
leaves_takes p (slot.LowList q) e = absurd (true≢false (sym e))
leaves_takes p (slot.StackList q extra) e = absurd (true≢false (sym e))
leaves_takes p (slot.InList q r) e = absurd (true≢false (sym e))
leaves_takes p (slot.NotInList q r) e = absurd (true≢false (sym e))
leaves_takes p s e = refl

left_as_is : (p : OperandPosition) (s : Slot) (f : Fields) (o : Operand) (g : Fields) → leaves p s ≡ true → filled_by s f o ≡ Some g → at g p ≡ at f p
left_as_is p slot.Sp f o g e h = ap (λ (x : Fields). at x p) (sym (sp_filled f o g h).1)
left_as_is p (slot.Mark m) f o g e h = ap (λ (x : Fields). at x p) (sym (mark_filled m f o g h).1)
left_as_is p (slot.Number q least most step) f o g e h =
    let n = number_put q least most step f o g h in
    ap (λ (x : Fields). at x p) (sym n.1) ∙ put_elsewhere p q f n.0 e
left_as_is p s f o g e h = absurd (true≢false (sym e))

all_leave : (p : OperandPosition) (ss : List Slot) (f : Fields) (os : List Operand) (x : Fields) → list_all (leaves p) ss ≡ true → filled ss f os ≡ Some x → at x p ≡ at f p
all_leave p [] f os x e h = ap (λ (y : Fields). at y p) (sym (none_left f os x h).1)
all_leave p (s ∷ ss) f os x e h =
    let parts = and_parts (leaves p s) (list_all (leaves p) ss) e in
    let t = took s ss f os x (leaves_takes p s parts.0) h in
    all_leave p ss t.fields t.after x parts.1 t.filled ∙ left_as_is p s f t.operand t.fields parts.0 t.fields_view

-- ---- slots that can't both be filled

-- no operand is accepted by both slots
abbrev slots_clash : Slot → Slot → Bool
slots_clash slot.Primask slot.Ipsr = true
slots_clash slot.Ipsr slot.Primask = true
slots_clash s t = not (class s == class t) || ((class s == 2) && (nat_lt (most_of s) (least_of t) || nat_lt (most_of t) (least_of s)))

same_case : (x a b : List ℕ) → is_spelled x a ≡ true → is_spelled x b ≡ true → map to_ascii_lowercase a ≡ map to_ascii_lowercase b
same_case x a b e h = sym ((bytes_eq-Decides (map to_ascii_lowercase x) (map to_ascii_lowercase a)).0 e) ∙ (bytes_eq-Decides (map to_ascii_lowercase x) (map to_ascii_lowercase b)).0 h

other_words : (x : List ℕ) → is_spelled x (codes "primask") ≡ true → is_spelled x (codes "ipsr") ≡ true → ⊥
other_words x e h = let same' = same_case x (codes "primask") (codes "ipsr") e h in cc

by_class : (s t : Slot) (f g : Fields) (o : Operand) (x y : Fields)
    → (not (class s == class t) || ((class s == 2) && (nat_lt (most_of s) (least_of t) || nat_lt (most_of t) (least_of s)))) ≡ true → filled_by s f o ≡ Some x → filled_by t g o ≡ Some y → ⊥
by_class s t f g o x y c a b =
    let one = same_class s f o x a in
    let two = same_class t g o y b in
    let same' : (class s == class t) ≡ true = eq-eqb (class s) (class t) (one ∙ sym two) in
    let rest : ((class s == 2) && (nat_lt (most_of s) (least_of t) || nat_lt (most_of t) (least_of s))) ≡ true = rw same' at c in
    let parts = and_parts (class s == 2) (nat_lt (most_of s) (least_of t) || nat_lt (most_of t) (least_of s)) rest in
    let n = is_number o (sym one ∙ eqb-true (class s) 2 parts.0) in
    let p = number_between s f n.0 x (ap (filled_by s f) (sym n.1) ∙ a) in
    let q = number_between t g n.0 y (ap (filled_by t g) (sym n.1) ∙ b) in
    elim (or_cases (nat_lt (most_of s) (least_of t)) (nat_lt (most_of t) (least_of s)) parts.1) [
      | inl h ↦ (let k = ltb-true (most_of s) (least_of t) h in omega arith)
      | inr h ↦ (let k = ltb-true (most_of t) (least_of s) h in omega arith)
    ]

masks_clash : (f g : Fields) (o : Operand) (x y : Fields) → filled_by slot.Primask f o ≡ Some x → filled_by slot.Ipsr g o ≡ Some y → ⊥
masks_clash f g (name w) x y a b = other_words w (kept_some (is_spelled w (codes "primask")) f x a).0 (kept_some (is_spelled w (codes "ipsr")) g y b).0
masks_clash f g o x y a b = absurd (cc)

not_both : (s t : Slot) (f g : Fields) (o : Operand) (x y : Fields) → slots_clash s t ≡ true → filled_by s f o ≡ Some x → filled_by t g o ≡ Some y → ⊥
not_both slot.Primask slot.Ipsr f g o x y c a b = masks_clash f g o x y a b
not_both slot.Ipsr slot.Primask f g o x y c a b = masks_clash g f o y x b a
not_both s t f g o x y c a b = by_class s t f g o x y c a b

-- an instruction of the kind has a low register in this position
abbrev is_low_at : Kind → OperandPosition → Bool
is_low_at kind.StackAddress position.First = true
is_low_at (kind.Offset x) position.Second = true
is_low_at k p = false

abbrev pub made_by : Kind → Fields → Option Parts
made_by k f = made k f.first f.second f.third

below_eight : (n : ℕ) → is_low n ≡ true → n < 8
below_eight n e = ltb-true n 8 (and_parts (nat_le 0 n) (nat_lt n 8) e).1

low_there : (k : Kind) (p : OperandPosition) (f : Fields) (m : Parts) → is_low_at k p ≡ true → made_by k f ≡ Some m → at f p < 8
low_there kind.StackAddress position.First f m e h = below_eight f.first (and_parts _ _ (when_some _ _ m h).0).0
low_there (kind.Offset x) position.Second f m e h = below_eight f.second (and_parts _ _ (and_parts _ _ (when_some _ _ m h).0).1).0
low_there k p f m e h = absurd (true≢false (sym e))

-- a low register in one form, sp in the other
abbrev low_and_sp : Kind → Slot → List Slot → Slot → Bool
low_and_sp k (slot.Register p) ss slot.Sp = is_low_at k p && list_all (leaves p) ss
low_and_sp k s ss t = false

never_sp : (k : Kind) (s t : Slot) (ss : List Slot) (f g : Fields) (o : Operand) (os : List Operand) (h y x : Fields) (m : Parts)
    → low_and_sp k s ss t ≡ true → filled_by s f o ≡ Some h → filled_by t g o ≡ Some y → filled ss h os ≡ Some x → made_by k x ≡ Some m → ⊥
never_sp k (slot.Register p) slot.Sp ss f g o os h y x m c a b fill is =
    let parts = and_parts (is_low_at k p) (list_all (leaves p) ss) c in
    let r = register_filled p f o h a in
    let low = low_there k p x m parts.0 is in
    let kept = all_leave p ss h os x parts.1 fill in
    let there : at h p ≡ r.0 = ap (λ (z : Fields). at z p) (sym r.2) ∙ put_there p f r.0 in
    let sp : register r.0 ≡ register 13 = sym r.1 ∙ (sp_filled g o y b).0 in
    let thirteen : r.0 ≡ 13 = cc in
    omega arith
never_sp k s t ss f g o os h y x m c a b fill is = absurd (true≢false (sym c))

-- no operands fill both forms such that both are instructions
abbrev clash : Kind → Kind → List Slot → List Slot → Bool
clash k l [] [] = false
clash k l [] (t ∷ ts) = takes_one t
clash k l (s ∷ ss) [] = takes_one s
clash k l (s ∷ ss) (t ∷ ts) = takes_one s && (takes_one t && (slots_clash s t || (low_and_sp k s ss t || (low_and_sp l t ts s || clash k l ss ts))))

clash_apart : (k l : Kind) (ss ts : List Slot) (f g : Fields) (os : List Operand) (x y : Fields) (m n : Parts)
    → clash k l ss ts ≡ true → filled ss f os ≡ Some x → filled ts g os ≡ Some y → made_by k x ≡ Some m → made_by l y ≡ Some n → ⊥
clash_apart k l [] [] f g os x y m n c a b p q = true≢false (sym c)
clash_apart k l [] (t ∷ ts) f g os x y m n c a b p q = let o = took t ts g os y c b in let i = o.is in let e = (none_left f os x a).0 in cc
clash_apart k l (s ∷ ss) [] f g os x y m n c a b p q = let o = took s ss f os x c a in let i = o.is in let e = (none_left g os y b).0 in cc
clash_apart k l (s ∷ ss) (t ∷ ts) f g os x y m n c a b p q =
    let one = and_parts (takes_one s) (takes_one t && (slots_clash s t || (low_and_sp k s ss t || (low_and_sp l t ts s || clash k l ss ts)))) c in
    let two = and_parts (takes_one t) (slots_clash s t || (low_and_sp k s ss t || (low_and_sp l t ts s || clash k l ss ts))) one.1 in
    let u = took s ss f os x one.0 a in
    let v = took t ts g os y two.0 b in
    let ui = u.is in
    let vi = v.is in
    let o : v.operand ≡ u.operand = cc in
    let r : v.after ≡ u.after = cc in
    let vh : filled_by t g u.operand ≡ Some v.fields = subst (λ (z : Operand). filled_by t g z ≡ Some v.fields) o v.fields_view in
    let vf : filled ts v.fields u.after ≡ Some y = subst (λ (z : List Operand). filled ts v.fields z ≡ Some y) r v.filled in
    elim (or_cases (slots_clash s t) (low_and_sp k s ss t || (low_and_sp l t ts s || clash k l ss ts)) two.1) [
      | inl h ↦ not_both s t f g u.operand u.fields v.fields h u.fields_view vh
      | inr h ↦ elim (or_cases (low_and_sp k s ss t) (low_and_sp l t ts s || clash k l ss ts) h) [
        | inl i ↦ never_sp k s t ss f g u.operand u.after u.fields v.fields x m i u.fields_view vh u.filled p
        | inr i ↦ elim (or_cases (low_and_sp l t ts s) (clash k l ss ts) i) [
          | inl j ↦ never_sp l t s ts g f u.operand u.after v.fields u.fields y n j vh u.fields_view vf q
          | inr j ↦ clash_apart k l ss ts u.fields v.fields u.after x y m n j u.filled vf p q
        ]
      ]
    ]

-- ---- slots that are filled in the same way

-- `d, d, m` and `d, m, d`
abbrev is_same_first : List Slot → Bool
is_same_first (slot.Register position.First ∷ slot.Mark m ∷ slot.Same position.First ∷ slot.Mark n ∷ slot.Register position.Second ∷ []) = true
is_same_first ss = false

abbrev is_same_last : List Slot → Bool
is_same_last (slot.Register position.First ∷ slot.Mark m ∷ slot.Register position.Second ∷ slot.Mark n ∷ slot.Same position.First ∷ []) = true
is_same_last ss = false

abbrev two_fields : ℕ → ℕ → Fields
two_fields a b = record { first = a; second = b; third = 0; label = None }

record SameFirst (os : List Operand) (x : Fields) : Type 0 where
  d : ℕ
  m : ℕ
  commas : (Operand × Operand)
  is : os ≡ register d ∷ commas.0 ∷ register d ∷ commas.1 ∷ register m ∷ []
  fields : two_fields d m ≡ x

record SameLast (os : List Operand) (x : Fields) : Type 0 where
  d : ℕ
  m : ℕ
  commas : (Operand × Operand)
  is : os ≡ register d ∷ commas.0 ∷ register m ∷ commas.1 ∷ register d ∷ []
  fields : two_fields d m ≡ x

-- what a register's slot, a mark's slot, or the end of the slots consumed
register_took : (p : OperandPosition) (ss : List Slot) (f : Fields) (os : List Operand) (x : Fields) → filled (slot.Register p ∷ ss) f os ≡ Some x → (r : ℕ) × (ps : List Operand) × (os ≡ register r ∷ ps) × (filled ss (put f p r) ps ≡ Some x)
register_took p ss f os x e =
    let t = took (slot.Register p) ss f os x refl e in
    let h = register_filled p f t.operand t.fields t.fields_view in
    (h.0, t.after, t.is ∙ ap (λ (o : Operand). o ∷ t.after) h.1, subst (λ (g : Fields). filled ss g t.after ≡ Some x) (sym h.2) t.filled)

mark_took : (m : ℕ) (ss : List Slot) (f : Fields) (os : List Operand) (x : Fields) → filled (slot.Mark m ∷ ss) f os ≡ Some x → (o : Operand) × (ps : List Operand) × (os ≡ o ∷ ps) × (filled ss f ps ≡ Some x)
mark_took m ss f os x e =
    let t = took (slot.Mark m) ss f os x refl e in
    (t.operand, t.after, t.is, subst (λ (g : Fields). filled ss g t.after ≡ Some x) (sym (mark_filled m f t.operand t.fields t.fields_view).1) t.filled)

same_took : (p : OperandPosition) (ss : List Slot) (f : Fields) (os : List Operand) (x : Fields) → filled (slot.Same p ∷ ss) f os ≡ Some x → (ps : List Operand) × (os ≡ register (at f p) ∷ ps) × (filled ss f ps ≡ Some x)
same_took p ss f os x e =
    let t = took (slot.Same p) ss f os x refl e in
    let h = same_filled p f t.operand t.fields t.fields_view in
    (t.after, t.is ∙ ap (λ (o : Operand). o ∷ t.after) h.0, subst (λ (g : Fields). filled ss g t.after ≡ Some x) (sym h.1) t.filled)

same_first_of : (m n : ℕ) (os : List Operand) (x : Fields) → filled (first ∷ slot.Mark m ∷ same ∷ slot.Mark n ∷ second ∷ []) empty os ≡ Some x → SameFirst os x
same_first_of m n os x e =
    let a = register_took position.First (slot.Mark m ∷ same ∷ slot.Mark n ∷ second ∷ []) empty os x e in
    let b = mark_took m (same ∷ slot.Mark n ∷ second ∷ []) (put empty position.First a.0) a.1 x a.3 in
    let c = same_took position.First (slot.Mark n ∷ second ∷ []) (put empty position.First a.0) b.1 x b.3 in
    let d = mark_took n (second ∷ []) (put empty position.First a.0) c.0 x c.2 in
    let f = register_took position.Second [] (put empty position.First a.0) d.1 x d.3 in
    let g = none_left (two_fields a.0 f.0) f.1 x f.3 in
    record { d = a.0; m = f.0; commas = (b.0, d.0); is = cc (a.2, b.2, c.1, d.2, f.2, g.0); fields = g.1 }

same_last_of : (m n : ℕ) (os : List Operand) (x : Fields) → filled (first ∷ slot.Mark m ∷ second ∷ slot.Mark n ∷ same ∷ []) empty os ≡ Some x → SameLast os x
same_last_of m n os x e =
    let a = register_took position.First (slot.Mark m ∷ second ∷ slot.Mark n ∷ same ∷ []) empty os x e in
    let b = mark_took m (second ∷ slot.Mark n ∷ same ∷ []) (put empty position.First a.0) a.1 x a.3 in
    let c = register_took position.Second (slot.Mark n ∷ same ∷ []) (put empty position.First a.0) b.1 x b.3 in
    let d = mark_took n (same ∷ []) (two_fields a.0 c.0) c.1 x c.3 in
    let f = same_took position.First [] (two_fields a.0 c.0) d.1 x d.3 in
    let g = none_left (two_fields a.0 c.0) f.0 x f.2 in
    record { d = a.0; m = c.0; commas = (b.0, d.0); is = cc (a.2, b.2, c.2, d.2, f.1, g.0); fields = g.1 }

same_first_from : (ss : List Slot) (os : List Operand) (x : Fields) → is_same_first ss ≡ true → filled ss empty os ≡ Some x → SameFirst os x
same_first_from (slot.Register position.First ∷ slot.Mark m ∷ slot.Same position.First ∷ slot.Mark n ∷ slot.Register position.Second ∷ []) os x c e = same_first_of m n os x e
same_first_from ss os x c e = absurd (true≢false (sym c))

same_last_from : (ss : List Slot) (os : List Operand) (x : Fields) → is_same_last ss ≡ true → filled ss empty os ≡ Some x → SameLast os x
same_last_from (slot.Register position.First ∷ slot.Mark m ∷ slot.Register position.Second ∷ slot.Mark n ∷ slot.Same position.First ∷ []) os x c e = same_last_of m n os x e
same_last_from ss os x c e = absurd (true≢false (sym c))

filled_alike : (ss ts : List Slot) (os : List Operand) (x y : Fields) → is_same_first ss ≡ true → is_same_last ts ≡ true → filled ss empty os ≡ Some x → filled ts empty os ≡ Some y → x ≡ y
filled_alike ss ts os x y c d a b =
    let u = same_first_from ss os x c a in
    let v = same_last_from ts os y d b in
    let ui = u.is in
    let vi = v.is in
    let one : register u.d ≡ register v.d = cc in
    let two : register u.d ≡ register v.m = cc in
    let three : register u.m ≡ register v.d = cc in
    let four : u.d ≡ v.d = cc in
    let five : u.m ≡ v.m = cc in
    let uf = u.fields in
    let vf = v.fields in
    let six : two_fields u.d u.m ≡ two_fields v.d v.m = cc in
    cc

-- the kinds that are read both as `d, d, m` and as `d, m, d`, each with a number of its own; others have 0
abbrev turned : Kind → ℕ
turned (kind.Two operation.And) = 1
turned (kind.Two operation.Eor) = 2
turned (kind.Two operation.Adc) = 3
turned (kind.Two operation.Orr) = 4
turned (kind.Two operation.Mul) = 5
turned kind.Add = 6
turned k = 0

abbrev turned_kind : ℕ → Kind
turned_kind zero = kind.Push
turned_kind (suc zero) = kind.Two operation.And
turned_kind (suc (suc zero)) = kind.Two operation.Eor
turned_kind (suc (suc (suc zero))) = kind.Two operation.Adc
turned_kind (suc (suc (suc (suc zero)))) = kind.Two operation.Orr
turned_kind (suc (suc (suc (suc (suc zero))))) = kind.Two operation.Mul
turned_kind (suc (suc (suc (suc (suc (suc n)))))) = kind.Add

turned_back : (k : Kind) → 0 < turned k → turned_kind (turned k) ≡ k
turned_back (kind.Two operation.And) e = refl
turned_back (kind.Two operation.Eor) e = refl
turned_back (kind.Two operation.Adc) e = refl
turned_back (kind.Two operation.Orr) e = refl
turned_back (kind.Two operation.Mul) e = refl
turned_back kind.Add e = refl
turned_back k e = absurd (omega arith)

abbrev are_turned : Row → Row → Bool
are_turned a b = (nat_lt 0 (turned a.kind) && (turned a.kind == turned b.kind)) && (is_same_first a.slots && is_same_last b.slots)

-- a comparison of low registers, and one of others
abbrev is_low_compare : Kind → Bool
is_low_compare (kind.Two operation.Cmp) = true
is_low_compare k = false

abbrev is_high_compare : Kind → Bool
is_high_compare kind.Compare = true
is_high_compare k = false

abbrev is_two : List Slot → Bool
is_two (slot.Register position.First ∷ slot.Mark m ∷ slot.Register position.Second ∷ []) = m == 44
is_two ss = false

two_is : (ss : List Slot) → is_two ss ≡ true → ss ≡ first ∷ slot.Mark 44 ∷ second ∷ []
two_is (slot.Register position.First ∷ slot.Mark m ∷ slot.Register position.Second ∷ []) e = ap (λ (n : ℕ). first ∷ slot.Mark n ∷ second ∷ []) (eqb-true m 44 e)
two_is ss e = absurd (true≢false (sym e))

abbrev are_comparisons : Row → Row → Bool
are_comparisons a b = (is_low_compare a.kind && is_high_compare b.kind) && (is_two a.slots && is_two b.slots)

low_compared : (k : Kind) (f : Fields) (m : Parts) → is_low_compare k ≡ true → made_by k f ≡ Some m → are_low f.first f.second ≡ true
low_compared (kind.Two operation.Cmp) f m c e = (when_some _ _ m e).0
low_compared k f m c e = absurd (true≢false (sym c))

high_compared : (k : Kind) (f : Fields) (m : Parts) → is_high_compare k ≡ true → made_by k f ≡ Some m → not (nat_lt f.first 8 && nat_lt f.second 8) ≡ true
high_compared kind.Compare f m c e = (and_parts (are_registers f.first f.second) (not (nat_lt f.first 8 && nat_lt f.second 8)) (when_some _ _ m e).0).1
high_compared k f m c e = absurd (true≢false (sym c))

both_comparisons : (a b : ℕ) → are_low a b ≡ true → not (nat_lt a 8 && nat_lt b 8) ≡ true → ⊥
both_comparisons a b e h =
    let parts = and_parts (is_low a) (is_low b) e in
    let x = lt-ltb a 8 (below_eight a parts.0) in
    let y = lt-ltb b 8 (below_eight b parts.1) in
    let out : false ≡ true = rw (x, y) at h in
    true≢false (sym out)

-- ---- two rows

abbrev other_mnemonic : Row → Row → Bool
other_mnemonic a b = not (bytes_eq (map to_ascii_lowercase a.mnemonic) (map to_ascii_lowercase b.mnemonic))

-- two rows never read operands as different instructions
abbrev agree : Row → Row → Bool
agree a b = other_mnemonic a b || (clash a.kind b.kind a.slots b.slots || (are_turned a b || (are_turned b a || (are_comparisons a b || are_comparisons b a))))

pub record Read (w : List ℕ) (os : List Operand) (r : Row) (s : Shown) : Type 0 where
  pub spelled : is_spelled w r.mnemonic ≡ true
  pub fields : Fields
  pub filled : filled r.slots empty os ≡ Some fields
  pub instr : Parts
  pub made : made_by r.kind fields ≡ Some instr
  pub shown : with_label fields.label instr ≡ s

pub read_by : (w : List ℕ) (os : List Operand) (r : Row) (s : Shown) → read_as w os r ≡ Some s → Read w os r s
read_by w os r s e = elim (cases_Bool (is_spelled w r.mnemonic)) [
  | inl yes' ↦ (
      let step = and_then_some (filled r.slots empty os) (shown_by r.kind) s (rw yes' at e) in
      let m = map_some (made_by r.kind step.0) (with_label (step.0).label) s step.2 in
      record { spelled = yes'; fields = step.0; filled = step.1; instr = m.0; made = m.1; shown = m.2 })
  | inr no' ↦ absurd (let none : None ≡ Some s = rw no' at e in cc)
]

turned_agree : (w : List ℕ) (os : List Operand) (a b : Row) (s t : Shown) → are_turned a b ≡ true → Read w os a s → Read w os b t → s ≡ t
turned_agree w os a b s t c u v =
    let parts = and_parts (nat_lt 0 (turned a.kind) && (turned a.kind == turned b.kind)) (is_same_first a.slots && is_same_last b.slots) c in
    let kinds = and_parts (nat_lt 0 (turned a.kind)) (turned a.kind == turned b.kind) parts.0 in
    let slots' = and_parts (is_same_first a.slots) (is_same_last b.slots) parts.1 in
    let number = eqb-true (turned a.kind) (turned b.kind) kinds.1 in
    let more = ltb-true 0 (turned a.kind) kinds.0 in
    let k : a.kind ≡ b.kind = sym (turned_back a.kind more) ∙ ap turned_kind number ∙ turned_back b.kind (omega arith) in
    let f : u.fields ≡ v.fields = filled_alike a.slots b.slots os u.fields v.fields slots'.0 slots'.1 u.filled v.filled in
    let m : Some u.instr ≡ Some v.instr = sym u.made ∙ ap (λ (l : Kind). made_by l u.fields) k ∙ ap (made_by b.kind) f ∙ v.made in
    let same' : u.instr ≡ v.instr = cc in
    sym u.shown ∙ ap (λ (x : Fields). with_label x.label u.instr) f ∙ ap (with_label v.fields.label) same' ∙ v.shown

comparisons_apart : (w : List ℕ) (os : List Operand) (a b : Row) (s t : Shown) → are_comparisons a b ≡ true → Read w os a s → Read w os b t → ⊥
comparisons_apart w os a b s t c u v =
    let parts = and_parts (is_low_compare a.kind && is_high_compare b.kind) (is_two a.slots && is_two b.slots) c in
    let kinds = and_parts (is_low_compare a.kind) (is_high_compare b.kind) parts.0 in
    let slots' = and_parts (is_two a.slots) (is_two b.slots) parts.1 in
    let same' : a.slots ≡ b.slots = two_is a.slots slots'.0 ∙ sym (two_is b.slots slots'.1) in
    let f : Some u.fields ≡ Some v.fields = sym u.filled ∙ ap (λ (ss : List Slot). filled ss empty os) same' ∙ v.filled in
    let g : v.fields ≡ u.fields = cc in
    let m : made_by b.kind u.fields ≡ Some v.instr = ap (made_by b.kind) (sym g) ∙ v.made in
    both_comparisons u.fields.first u.fields.second (low_compared a.kind u.fields u.instr kinds.0 u.made) (high_compared b.kind u.fields v.instr kinds.1 m)

pub agree_reads : (w : List ℕ) (os : List Operand) (a b : Row) (s t : Shown) → agree a b ≡ true → read_as w os a ≡ Some s → read_as w os b ≡ Some t → s ≡ t
agree_reads w os a b s t c p q =
    let u = read_by w os a s p in
    let v = read_by w os b t q in
    elim (or_cases (other_mnemonic a b) (clash a.kind b.kind a.slots b.slots || (are_turned a b || (are_turned b a || (are_comparisons a b || are_comparisons b a)))) c) [
      | inl h ↦ absurd (
          let same' = (bytes_eq-Decides (map to_ascii_lowercase a.mnemonic) (map to_ascii_lowercase b.mnemonic)).1 (same_case w a.mnemonic b.mnemonic u.spelled v.spelled) in
          let out : false ≡ true = rw same' at h in
          true≢false (sym out))
      | inr h ↦ elim (or_cases (clash a.kind b.kind a.slots b.slots) (are_turned a b || (are_turned b a || (are_comparisons a b || are_comparisons b a))) h) [
        | inl i ↦ absurd (clash_apart a.kind b.kind a.slots b.slots empty empty os u.fields v.fields u.instr v.instr i u.filled v.filled u.made v.made)
        | inr i ↦ elim (or_cases (are_turned a b) (are_turned b a || (are_comparisons a b || are_comparisons b a)) i) [
          | inl j ↦ turned_agree w os a b s t j u v
          | inr j ↦ elim (or_cases (are_turned b a) (are_comparisons a b || are_comparisons b a) j) [
            | inl k ↦ sym (turned_agree w os b a t s k v u)
            | inr k ↦ elim (or_cases (are_comparisons a b) (are_comparisons b a) k) [
              | inl l ↦ absurd (comparisons_apart w os a b s t l u v)
              | inr l ↦ absurd (comparisons_apart w os b a t s l v u)
            ]
          ]
        ]
      ]
    ]

-- ---- all rows

unfoldable all_agree : List Row → Bool
all_agree [] = true
all_agree (r ∷ rs) = list_all (agree r) rs && all_agree rs

rows_agree : all_agree rows ≡ true
unfolding all_agree rows data_rows memory_rows control_rows
rows_agree = refl

agree_with : (r : Row) (qs : List Row) (k : ℕ) (q : Row) → list_all (agree r) qs ≡ true → slice_get qs k ≡ Some q → agree r q ≡ true
agree_with r [] k q a e = absurd (cc)
agree_with r (x ∷ xs) zero q a e = let s : x ≡ q = cc in subst (λ (y : Row). agree r y ≡ true) s (and_parts (agree r x) (list_all (agree r) xs) a).0
agree_with r (x ∷ xs) (suc k) q a e = agree_with r xs k q (and_parts (agree r x) (list_all (agree r) xs) a).1 e

agree_in : (rs : List Row) (j k : ℕ) (a b : Row) → all_agree rs ≡ true → j < k → slice_get rs j ≡ Some a → slice_get rs k ≡ Some b → agree a b ≡ true
unfolding all_agree
agree_in [] j k a b all less p q = absurd (cc)
agree_in (x ∷ xs) j zero a b all less p q = absurd (omega arith)
agree_in (x ∷ xs) zero (suc k) a b all less p q =
    let s : x ≡ a = cc in
    agree_with a xs k b (subst (λ (y : Row). list_all (agree y) xs ≡ true) s (and_parts (list_all (agree x) xs) (all_agree xs) all).0) q
agree_in (x ∷ xs) (suc j) (suc k) a b all less p q = agree_in xs j k a b (and_parts (list_all (agree x) xs) (all_agree xs) all).1 (omega arith) p q

-- two rows of the table that read one text read it as the same
pub rows_alike : (w : List ℕ) (os : List Operand) (j k : ℕ) (a b : Row) (s t : Shown) → slice_get rows j ≡ Some a → slice_get rows k ≡ Some b → read_as w os a ≡ Some s → read_as w os b ≡ Some t → s ≡ t
rows_alike w os j k a b s t p q u v = elim (cases_order j k) [
  | inl e ↦ (
      let one : Some a ≡ Some b = sym p ∙ ap (slice_get rows) e ∙ q in
      let same' : a ≡ b = cc in
      let two : Some s ≡ Some t = sym u ∙ ap (read_as w os) same' ∙ v in
      cc)
  | inr o ↦ elim o [
    | inl less ↦ agree_reads w os a b s t (agree_in rows j k a b rows_agree less p q) u v
    | inr more ↦ sym (agree_reads w os b a t s (agree_in rows k j b a rows_agree more q p) v u)
  ]
]
