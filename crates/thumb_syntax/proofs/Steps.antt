-- Which operands slots consumed, if they were filled.
use Rattle.std.proofs.Common.{◌≡◌, ◌∙◌, inl, inr, ℕ, ◌+◌, ◌/◌, ◌%◌, ◌≤◌, ◌||◌, ◌==◌, Bool, true, false, not, List, [], ◌∷◌, Option, Some, None, refl, sym, ap, arith, true≢false, eqb-true}
use Rattle.std.specs.Prelude.{nat_lt, option_and_then, option_map}
use Rattle.std.proofs.lemmas.Bool.{cases_Bool, or_parts, ltb-false}
use Rattle.thumb_syntax.specs.declared.form.OperandPosition.{OperandPosition}
use Rattle.thumb_syntax.specs.declared.form.Slot.{Slot}
use Rattle.thumb_syntax.specs.declared.form.Slot.TheVariants as slot
use Rattle.thumb_syntax.specs.Operands.{Operand, register, base, range, number, sign, name, sum, stray}
use Rattle.thumb_syntax.specs.Agreeing.{takes_one}
use Rattle.thumb_syntax.specs.Slots.{Fields, at, put, kept_if, number_filled, filled_by, next_filled, taken, filled}

pub and_then_some : {A B : Type 0} → (o : Option A) (f : A → Option B) (y : B) → option_and_then f o ≡ Some y → (x : A) × (o ≡ Some x) × (f x ≡ Some y)
and_then_some None f y e = absurd (cc)
and_then_some (Some x) f y e = (x, refl, e)

pub map_some : {A B : Type 0} → (o : Option A) (f : A → B) (y : B) → option_map f o ≡ Some y → (x : A) × (o ≡ Some x) × (f x ≡ y)
map_some None f y e = absurd (cc)
map_some (Some x) f y e = (x, refl, cc)

pub kept_some : (b : Bool) (f g : Fields) → kept_if b f ≡ Some g → (b ≡ true) × (f ≡ g)
kept_some true f g e = (refl, cc)
kept_some false f g e = absurd (cc)

pub taken_next : (s : Slot) (f : Fields) (os : List Operand) → takes_one s ≡ true → taken s f os ≡ next_filled s f os
taken_next (slot.LowList p) f os e = absurd (true≢false (sym e))
taken_next (slot.StackList p extra) f os e = absurd (true≢false (sym e))
taken_next (slot.InList p q) f os e = absurd (true≢false (sym e))
taken_next (slot.NotInList p q) f os e = absurd (true≢false (sym e))
taken_next s f os e = refl

-- the operand that a slot consumed, and the fields after it
pub record Took (s : Slot) (ss : List Slot) (f : Fields) (os : List Operand) (x : Fields) : Type 0 where
  pub operand : Operand
  pub after : List Operand
  pub fields : Fields
  pub is : os ≡ operand ∷ after
  pub fields_view : filled_by s f operand ≡ Some fields
  pub filled : filled ss fields after ≡ Some x

next_took : (s : Slot) (f : Fields) (os : List Operand) (r : Fields × List Operand) → next_filled s f os ≡ Some r → (o : Operand) × (os ≡ o ∷ r.1) × (filled_by s f o ≡ Some r.0)
next_took s f [] r e = absurd (cc)
next_took s f (o ∷ os) r e =
    let m = map_some (filled_by s f o) (λ (g : Fields). (g, os)) r e in
    (o, ap (λ (q : Fields × List Operand). o ∷ q.1) m.2, m.1 ∙ ap (λ (q : Fields × List Operand). Some q.0) m.2)

pub took : (s : Slot) (ss : List Slot) (f : Fields) (os : List Operand) (x : Fields) → takes_one s ≡ true → filled (s ∷ ss) f os ≡ Some x → Took s ss f os x
took s ss f os x one e =
    let step = and_then_some (taken s f os) (λ (r : Fields × List Operand). filled ss r.0 r.1) x e in
    let next = next_took s f os step.0 (sym (taken_next s f os one) ∙ step.1) in
    record { operand = next.0; after = (step.0).1; fields = (step.0).0; is = next.1; fields_view = next.2; filled = step.2 }

pub none_left : (f : Fields) (os : List Operand) (x : Fields) → filled [] f os ≡ Some x → (os ≡ []) × (f ≡ x)
none_left f [] x e = (refl, cc)
none_left f (o ∷ os) x e = absurd (cc)

-- ---- the sort of an operand, by the slot that consumed it

-- 0: a register; 1: a register with `!`; 2: a number; 3: a name; a mark has its byte
abbrev pub class : Slot → ℕ
class (slot.Register p) = 0
class (slot.Twice p q) = 0
class (slot.Same p) = 0
class slot.Sp = 0
class (slot.Base p) = 1
class (slot.Number p least most step) = 2
class (slot.Exactly n) = 2
class (slot.Mark m) = 4 + m
class s = 3

abbrev pub class_of : Operand → ℕ
class_of (register r) = 0
class_of (base r) = 1
class_of (number n) = 2
class_of (sign m) = 4 + m
class_of o = 3

pub same_class : (s : Slot) (f : Fields) (o : Operand) (g : Fields) → filled_by s f o ≡ Some g → class s ≡ class_of o
same_class (slot.Register p) f (register r) g e = refl
same_class (slot.Twice p q) f (register r) g e = refl
same_class (slot.Same p) f (register r) g e = refl
same_class slot.Sp f (register r) g e = refl
same_class (slot.Base p) f (base r) g e = refl
same_class (slot.Number p least most step) f (number n) g e = refl
same_class (slot.Exactly m) f (number n) g e = refl
same_class (slot.Mark m) f (sign s) g e = ap (λ k. 4 + k) (eqb-true m s (kept_some (m == s) f g e).0)
same_class slot.Sy f (name x) g e = refl
same_class slot.I f (name x) g e = refl
same_class slot.Primask f (name x) g e = refl
same_class slot.Ipsr f (name x) g e = refl
same_class slot.Label f (name x) g e = refl
same_class slot.LabelSum f (name x) g e = refl
same_class slot.LabelSum f (sum x i) g e = refl
same_class s f o g e = absurd (cc)

pub register_filled : (p : OperandPosition) (f : Fields) (o : Operand) (g : Fields) → filled_by (slot.Register p) f o ≡ Some g → (r : ℕ) × (o ≡ register r) × (put f p r ≡ g)
register_filled p f (register r) g e = (r, refl, cc)
register_filled p f o g e = absurd (cc)

pub same_filled : (p : OperandPosition) (f : Fields) (o : Operand) (g : Fields) → filled_by (slot.Same p) f o ≡ Some g → (o ≡ register (at f p)) × (f ≡ g)
same_filled p f (register r) g e = let k = kept_some (at f p == r) f g e in (ap register (sym (eqb-true (at f p) r k.0)), k.1)
same_filled p f o g e = absurd (cc)

pub sp_filled : (f : Fields) (o : Operand) (g : Fields) → filled_by slot.Sp f o ≡ Some g → (o ≡ register 13) × (f ≡ g)
sp_filled f (register r) g e = let k = kept_some (r == 13) f g e in (ap register (eqb-true r 13 k.0), k.1)
sp_filled f o g e = absurd (cc)

pub mark_filled : (m : ℕ) (f : Fields) (o : Operand) (g : Fields) → filled_by (slot.Mark m) f o ≡ Some g → (o ≡ sign m) × (f ≡ g)
mark_filled m f (sign s) g e = let k = kept_some (m == s) f g e in (ap sign (sym (eqb-true m s k.0)), k.1)
mark_filled m f o g e = absurd (cc)

number_kept : (f : Fields) (p : OperandPosition) (least most step n : ℕ) (g : Fields) → number_filled f p least most step n ≡ Some g → (least ≤ n) × (n ≤ most) × (put f p (n / step) ≡ g)
number_kept f p least most step n g e = elim (cases_Bool (step == 0 || (nat_lt n least || (nat_lt most n || not (n % step == 0))))) [
  | inl out ↦ absurd (let none : None ≡ Some g = rw out at e in cc)
  | inr within ↦ (
      let some : Some (put f p (n / step)) ≡ Some g = rw within at e in
      let low = or_parts (nat_lt n least) (nat_lt most n || not (n % step == 0)) (or_parts (step == 0) (nat_lt n least || (nat_lt most n || not (n % step == 0))) within).1 in
      let high = or_parts (nat_lt most n) (not (n % step == 0)) low.1 in
      (ltb-false n least low.0, ltb-false most n high.0, cc))
]

-- the numbers that a slot accepts
abbrev pub least_of : Slot → ℕ
least_of (slot.Number p least most step) = least
least_of (slot.Exactly n) = n
least_of s = 0

abbrev pub most_of : Slot → ℕ
most_of (slot.Number p least most step) = most
most_of (slot.Exactly n) = n
most_of s = 0

pub number_between : (s : Slot) (f : Fields) (n : ℕ) (g : Fields) → filled_by s f (number n) ≡ Some g → (least_of s ≤ n) × (n ≤ most_of s)
number_between (slot.Number p least most step) f n g e = let k = number_kept f p least most step n g e in (k.0, k.1)
number_between (slot.Exactly m) f n g e = let k = eqb-true n m (kept_some (n == m) f g e).0 in (omega arith, omega arith)
number_between s f n g e = absurd (cc)

pub is_number : (o : Operand) → class_of o ≡ 2 → (n : ℕ) × (o ≡ number n)
is_number (number n) e = (n, refl)
is_number (register r) e = absurd (omega arith)
is_number (base r) e = absurd (omega arith)
is_number (sign m) e = absurd (omega arith)
is_number (range a b) e = absurd (omega arith)
is_number (name w) e = absurd (omega arith)
is_number (sum w i) e = absurd (omega arith)
is_number stray e = absurd (omega arith)

pub number_put : (p : OperandPosition) (least most step : ℕ) (f : Fields) (o : Operand) (g : Fields) → filled_by (slot.Number p least most step) f o ≡ Some g → (n : ℕ) × (put f p n ≡ g)
number_put p least most step f (number n) g e = (n / step, (number_kept f p least most step n g e).2)
number_put p least most step f o g e = absurd (cc)
