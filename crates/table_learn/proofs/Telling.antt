-- The tests of `Tellings` decide the propositions that they stand for.
use Rattle.std.proofs.Common.{◌≡◌, ℕ, ◌↔◌, ◌==◌, ◌||◌, inl, inr, Bool, true, false, not, IsTrue, List, [], ◌∷◌, ◌++◌, refl, sym, ◌∙◌, ap, subst, eq-eqb, eqb-true}
use Rattle.std.specs.List.{list_any}
use Rattle.std.proofs.lemmas.Bool.{cases_Bool, or_cases, or_parts, or_left, or_right, true≢false, or_from as or_neither}
use Rattle.std.proofs.lemmas.List.Folds.{Any-from_list_any, list_any-from_Any, list_any-append}
use Rattle.thumb_instr.specs.declared.instr.Instr.{Instr}
use Rattle.thumb_model.specs.Effect.{Values, one_of, after_all}
use Rattle.window_exec.specs.State.{Differ, Tells, Seen}
use Rattle.bit_blast.specs.Exactness.{IsMask}
use Rattle.table_audit.specs.Soundness.{items_in}
use Rattle.table_audit.specs.Shorter.{values_in, IsTold}
use Rattle.table_audit.proofs.Names.{has_one, one_has}
use Rattle.table_learn.specs.Tellings.{differ, tells_apart, told}

-- ---- one state ----

some_of : (p : ℕ → Bool) (xs : List ℕ) → list_any p xs ≡ true → (x : ℕ) × (one_of x xs ≡ true) × (p x ≡ true)
some_of p [] h = absurd (cc)
some_of p (x ∷ xs) h = elim (or_cases (p x) (list_any p xs) h) [
  | inl here ↦ (x, or_left _ _ (eq-eqb x x refl), here)
  | inr later ↦ (let r = some_of p xs later in (r.0, or_right (r.0 == x) _ r.1, r.2))
]

any_of : (p : ℕ → Bool) (xs : List ℕ) (x : ℕ) → one_of x xs ≡ true → p x ≡ true → list_any p xs ≡ true
any_of p [] x o h = absurd (cc)
any_of p (y ∷ ys) x o h = elim (or_cases (x == y) (one_of x ys) o) [
  | inl same ↦ or_left _ _ (subst (λ z. p z ≡ true) (eqb-true x y same) h)
  | inr later ↦ or_right (p y) _ (any_of p ys x later h)
]

not_same : (a b : ℕ) → (a ≡ b → ⊥) → not (a == b) ≡ true
not_same a b h = elim (cases_Bool (a == b)) [ inl e ↦ absurd (h (eqb-true a b e)) | inr e ↦ ap not e ]

differ_is : (v w : Values) (mask : ℕ) → differ v w mask ≡ true → Differ v w mask
unfolding differ
differ_is v w mask h =
    let r = some_of (λ x. not (v x == w x)) (items_in mask) h in
    (r.0, (has_one mask r.0 r.1).0, λ e. true≢false (sym r.2 ∙ ap not (eq-eqb (v r.0) (w r.0) e)))

is_differ : (v w : Values) (mask : ℕ) → IsMask mask → Differ v w mask → differ v w mask ≡ true
unfolding differ
is_differ v w mask m d = any_of (λ x. not (v x == w x)) (items_in mask) d.0 (one_has mask d.0 d.1 (m d.0 d.1)) (not_same (v d.0) (w d.0) d.2)

-- a Boolean that decides whether a state tells the sides apart equals the test
pub test_is : (r : Bool) (left right : List Instr) (mask : ℕ) (s : Seen) → IsMask mask → IsTrue r ↔ Tells (values_in s) left right mask → r ≡ tells_apart left right mask s
test_is r left right mask s m h = elim (cases_Bool (tells_apart left right mask s)) [
  | inl does ↦ (let t : r ≡ true = h.1 (differ_is (after_all left (values_in s)) (after_all right (values_in s)) mask does) in t ∙ sym does)
  | inr never ↦ elim (cases_Bool r) [
    | inl does ↦ absurd (true≢false (sym (is_differ (after_all left (values_in s)) (after_all right (values_in s)) mask m (h.0 does)) ∙ never))
    | inr also ↦ also ∙ sym never
  ]
]

pub apart_tells : (left right : List Instr) (mask : ℕ) (s : Seen) → tells_apart left right mask s ≡ true → Tells (values_in s) left right mask
apart_tells left right mask s h = differ_is (after_all left (values_in s)) (after_all right (values_in s)) mask h

pub tells_is_apart : (left right : List Instr) (mask : ℕ) (s : Seen) → IsMask mask → Tells (values_in s) left right mask → tells_apart left right mask s ≡ true
tells_is_apart left right mask s m t = is_differ (after_all left (values_in s)) (after_all right (values_in s)) mask m t

-- ---- a list of them ----

pub told_is : (states : List Seen) (left right : List Instr) (mask : ℕ) → told states left right mask ≡ true → IsTold states left right mask
told_is states left right mask h =
    let a = Any-from_list_any (tells_apart left right mask) states h in
    (a.0, a.1, a.2, a.3, apart_tells left right mask a.1 a.4)

pub is_told : (states : List Seen) (left right : List Instr) (mask : ℕ) → IsMask mask → IsTold states left right mask → told states left right mask ≡ true
is_told states left right mask m a = list_any-from_Any (tells_apart left right mask) states (a.0, a.1, a.2, a.3, tells_is_apart left right mask a.1 m a.4)

pub untold : (states : List Seen) (left right : List Instr) (mask : ℕ) → IsMask mask → told states left right mask ≡ false → IsTold states left right mask → ⊥
untold states left right mask m h a = true≢false (sym (is_told states left right mask m a) ∙ h)

pub told-append : (xs ys : List Seen) (left right : List Instr) (mask : ℕ) → told (xs ++ ys) left right mask ≡ (told xs left right mask || told ys left right mask)
told-append xs ys left right mask = list_any-append (tells_apart left right mask) xs ys

pub told_more : (xs ys : List Seen) (left right : List Instr) (mask : ℕ) → told xs left right mask ≡ true → told (xs ++ ys) left right mask ≡ true
told_more xs ys left right mask h = told-append xs ys left right mask ∙ or_left _ _ h

pub untold_before : (xs ys : List Seen) (left right : List Instr) (mask : ℕ) → told (xs ++ ys) left right mask ≡ false → told xs left right mask ≡ false
untold_before xs ys left right mask h = (or_parts (told xs left right mask) (told ys left right mask) (sym (told-append xs ys left right mask) ∙ h)).0

pub untold_both : (xs ys : List Seen) (left right : List Instr) (mask : ℕ) → told xs left right mask ≡ false → told ys left right mask ≡ false → told (xs ++ ys) left right mask ≡ false
untold_both xs ys left right mask p q = told-append xs ys left right mask ∙ or_neither _ _ p q

pub told_last : (xs : List Seen) (s : Seen) (left right : List Instr) (mask : ℕ) → tells_apart left right mask s ≡ true → told (xs ++ s ∷ []) left right mask ≡ true
told_last xs s left right mask h = told-append xs (s ∷ []) left right mask ∙ or_right (told xs left right mask) _ (or_left _ _ h)
