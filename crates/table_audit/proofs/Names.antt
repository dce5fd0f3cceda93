-- The two definitions of the number of registers that a canonical side names agree, and so do those of a mask's items.
use Rattle.std.proofs.Common.{◌≡◌, ℕ, zero, suc, ◌+◌, ◌-◌, ◌<◌, ◌≤◌, ◌⊎◌, ◌==◌, ◌||◌, ◌&&◌, inl, inr, Bool, true, false, List, [], ◌∷◌, ◌++◌, max, filter, cond, refl, sym, ◌∙◌, ap, subst, arith, nat_lt, nat_le}
use Rattle.std.specs.List.{flat_map}
use Rattle.std.proofs.lemmas.Bool.{cases_Bool, eqb-true, or_cases, or_left, or_right, ltb-true, leb-true, and_parts}
use Rattle.std.proofs.lemmas.List.Folds.{list_any-append}
use Rattle.thumb_instr.specs.declared.instr.Instr.{Instr}
use Rattle.thumb_instr.specs.Items.{has as has_item, is_in_masks}
use Rattle.thumb_instr.specs.Window.{named}
use Rattle.thumb_model.specs.Effect.{one_of, is_named, above, register_count}
use Rattle.seq_enum.specs.Alphabet.{numbers_from}
use Rattle.rule_table.specs.Canonical.{has, with_first, firsts, appearing}
use Rattle.table_audit.specs.Shorter.{named_count, IsCanonicalSide}
use Rattle.table_audit.specs.Orders.{IsInOrder}
use Rattle.table_audit.specs.Soundness.{items_in}
use Rattle.table_audit.proofs.Appearing.{has_low, names_register}
pub use Rattle.window_exec.proofs.Differences.{of_four}
use Rattle.common_lemmas.proofs.Booleans.{eqb_sym}

-- ---- membership, defined in two ways ----

pub one_of_has : (x : ℕ) (xs : List ℕ) → one_of x xs ≡ has xs x
one_of_has x [] = refl
one_of_has x (y ∷ ys) = rw (eqb_sym x y, one_of_has x ys) refl

-- a register is named where it is one of the names
named_is : (x : ℕ) (is : List Instr) → is_named x is ≡ has (flat_map named is) x
named_is x [] = refl
named_is x (i ∷ is) = rw (one_of_has x (named i), named_is x is) (sym (list_any-append (λ y. y == x) (named i) (flat_map named is)))

-- ---- the least number above registers ----

above-append : (xs ys : List ℕ) → above (xs ++ ys) ≡ max (above xs) (above ys)
above-append [] ys = omega arith
above-append (x ∷ xs) ys = omega (arith, above-append xs ys)

above_has : (xs : List ℕ) (r : ℕ) → has xs r ≡ true → r + 1 ≤ above xs
above_has [] r h = absurd (cc)
above_has (x ∷ xs) r h = elim (or_cases (x == r) (has xs r) h) [
  | inl same ↦ omega (arith, eqb-true x r same)
  | inr later ↦ omega (arith, above_has xs r later)
]

above_with_first : (seen : List ℕ) (r : ℕ) → above (with_first seen r) ≡ max (above seen) (r + 1)
above_with_first seen r = elim (cases_Bool (has seen r)) [
  | inl there ↦ rw there (omega (arith, above_has seen r there))
  | inr new ↦ rw new (omega (arith, above-append seen (r ∷ [])))
]

above_firsts : (seen rs : List ℕ) → above (firsts seen rs) ≡ max (above seen) (above rs)
unfolding firsts
above_firsts seen [] = omega arith
above_firsts seen (r ∷ rs) = omega (arith, above_firsts (with_first seen r) rs, above_with_first seen r)

above_numbers : (first count : ℕ) → above (numbers_from first (suc count)) ≡ first + suc count
unfolding numbers_from
above_numbers first zero = omega arith
above_numbers first (suc count) = omega (arith, above_numbers (suc first) count)

above_first : (count : ℕ) → above (numbers_from 0 count) ≡ count
unfolding numbers_from
above_first zero = refl
above_first (suc count) = above_numbers 0 count ∙ omega arith

counted : (is : List Instr) → register_count is ≡ above (flat_map named is)
counted [] = refl
counted (i ∷ is) = omega (arith, counted is, above-append (named i) (flat_map named is))

pub count_same : (side : List Instr) → appearing side ≡ numbers_from 0 (named_count side) → register_count side ≡ named_count side
count_same side order =
    let all : above (appearing side) ≡ above (flat_map named side) = above_firsts [] (flat_map named side) ∙ omega arith in
    let ordered : above (appearing side) ≡ named_count side = ap above order ∙ above_first (named_count side) in
    counted side ∙ sym all ∙ ordered

-- so is that of a side whose registers are in order, some and at most four
pub count_in_order : (side : List Instr) → IsInOrder side → (register_count side ≡ named_count side) × (0 < named_count side) × (named_count side ≤ 4)
count_in_order side o = (count_same side o.in_order, names_register side o.some o.windows, o.few)

-- ---- each register below is named ----

has_from : (seen rs : List ℕ) (x : ℕ) → has (firsts seen rs) x ≡ true → (has seen x ≡ true) ⊎ (has rs x ≡ true)
unfolding firsts
has_from seen [] x h = inl h
has_from seen (r ∷ rs) x h = elim (has_from (with_first seen r) rs x h) [
  | inl early ↦ elim (cases_Bool (has seen r)) [
    | inl there ↦ inl (let same : with_first seen r ≡ seen = rw there refl in subst (λ xs. has xs x ≡ true) same early)
    | inr new ↦ (
        let same : with_first seen r ≡ seen ++ r ∷ [] = rw new refl in
        let split : (has seen x || has (r ∷ []) x) ≡ true = sym (list_any-append (λ y. y == x) seen (r ∷ [])) ∙ subst (λ xs. has xs x ≡ true) same early in
        elim (or_cases (has seen x) (has (r ∷ []) x) split) [
          | inl there ↦ inl there
          | inr here ↦ inr (elim (or_cases (r == x) false here) [
            | inl same ↦ or_left (r == x) (has rs x) same
            | inr never ↦ absurd (cc)
          ])
        ]
        )
  ]
  | inr later ↦ inr (or_right (r == x) (has rs x) later)
]

pub all_named : (side : List Instr) → IsCanonicalSide side → (x : ℕ) → x < named_count side → is_named x side ≡ true
all_named side c x low =
    let there : has (appearing side) x ≡ true = ap (λ rs. has rs x) c.in_order ∙ has_low 0 (named_count side) x (omega arith) (omega (arith, low)) in
    named_is x side ∙ elim (has_from [] (flat_map named side) x there) [
      | inl none ↦ absurd (cc)
      | inr named ↦ named
    ]

-- ---- a mask's items ----

kept_from : (p : ℕ → Bool) (xs : List ℕ) (x : ℕ) → one_of x (filter p xs) ≡ true → (p x ≡ true) × (one_of x xs ≡ true)
kept_from p [] x h = absurd (cc)
kept_from p (y ∷ ys) x h =
    elim (p y) as (λ b. p y ≡ b → one_of x (cond b (y ∷ filter p ys) (filter p ys)) ≡ true → (p x ≡ true) × (one_of x (y ∷ ys) ≡ true)) [
      | true ↦ λ e k. elim (or_cases (x == y) (one_of x (filter p ys)) k) [
        | inl same ↦ (ap p (eqb-true x y same) ∙ e, or_left (x == y) (one_of x ys) same)
        | inr later ↦ (let rest = kept_from p ys x later in (rest.0, or_right (x == y) (one_of x ys) rest.1))
      ]
      | false ↦ λ e k. let rest = kept_from p ys x k in (rest.0, or_right (x == y) (one_of x ys) rest.1)
    ] refl h

kept_to : (p : ℕ → Bool) (xs : List ℕ) (x : ℕ) → p x ≡ true → one_of x xs ≡ true → one_of x (filter p xs) ≡ true
kept_to p [] x kept h = absurd (cc)
kept_to p (y ∷ ys) x kept h =
    elim (p y) as (λ b. p y ≡ b → one_of x (cond b (y ∷ filter p ys) (filter p ys)) ≡ true) [
      | true ↦ λ e. elim (or_cases (x == y) (one_of x ys) h) [
        | inl same ↦ or_left (x == y) (one_of x (filter p ys)) same
        | inr later ↦ or_right (x == y) (one_of x (filter p ys)) (kept_to p ys x kept later)
      ]
      | false ↦ λ e. elim (or_cases (x == y) (one_of x ys) h) [
        | inl same ↦ (let not : p x ≡ false = ap p (eqb-true x y same) ∙ e in absurd (cc))
        | inr later ↦ kept_to p ys x kept later
      ]
    ] refl

-- what holds of each of some numbers holds of any of them
AllOf : (ℕ → Type 0) → List ℕ → Type 0
AllOf P [] = Unit {0}
AllOf P (x ∷ xs) = P x × AllOf P xs

any_of : (P : ℕ → Type 0) (xs : List ℕ) (x : ℕ) → AllOf P xs → one_of x xs ≡ true → P x
unfolding AllOf
any_of P [] x all h = absurd (cc)
any_of P (y ∷ ys) x all h = elim (or_cases (x == y) (one_of x ys) h) [
  | inl same ↦ subst P (sym (eqb-true x y same)) all.0
  | inr later ↦ any_of P ys x all.1 later
]

all_items : List ℕ
all_items = 0 ∷ 1 ∷ 2 ∷ 3 ∷ 15 ∷ 16 ∷ 17 ∷ 18 ∷ []

is_item : (x : ℕ) → is_in_masks x ≡ true → one_of x all_items ≡ true
unfolding all_items
is_item x h = elim (or_cases (nat_lt x 4) (nat_le 15 x && nat_lt x 19) h) [
  | inl low ↦ of_four (λ y. one_of y all_items ≡ true) refl refl refl refl x (ltb-true x 4 low)
  | inr flag ↦ (
      let parts = and_parts (nat_le 15 x) (nat_lt x 19) flag in
      let least : 15 ≤ x = leb-true 15 x parts.0 in
      let below : x < 19 = ltb-true x 19 parts.1 in
      let e : 15 + (x - 15) ≡ x = omega arith in
      let few : x - 15 < 4 = omega arith in
      subst (λ y. one_of y all_items ≡ true) e (of_four (λ y. one_of (15 + y) all_items ≡ true) refl refl refl refl (x - 15) few)
      )
]

pub has_one : (mask x : ℕ) → one_of x (items_in mask) ≡ true → (has_item mask x ≡ true) × (is_in_masks x ≡ true)
unfolding items_in all_items AllOf
has_one mask x h =
    let parts = kept_from (has_item mask) all_items x h in
    (parts.0, any_of (λ y. is_in_masks y ≡ true) all_items x (refl, (refl, (refl, (refl, (refl, (refl, (refl, (refl, tt)))))))) parts.1)

pub one_has : (mask x : ℕ) → has_item mask x ≡ true → is_in_masks x ≡ true → one_of x (items_in mask) ≡ true
unfolding items_in all_items
one_has mask x h m = kept_to (has_item mask) all_items x h (is_item x m)
