-- Marks of places that are taken, the least first.
use Rattle.std.proofs.Common.{◌≡◌, ℕ, zero, suc, ◌+◌, ◌<◌, ◌≤◌, Bool, true, false, List, [], ◌∷◌, length, set, sym, ap, ◌∙◌, arith, refl, inl, inr, subst, ◌-◌, ◌⊎◌, Some}
use Rattle.std.specs.Prelude.{slice_get}
use Rattle.std.proofs.lemmas.Bool.{cases_eq, cases_Bool}
use Rattle.std.proofs.lemmas.Option.{same_Some}
use Rattle.kept_places.specs.Marks.{marked, IsLeast}
use Rattle.kept_places.proofs.Ranks.{marked_other, marked_set, marked_within}
use Rattle.window_rewrite.specs.WorkList.{before_least, StayMarked}

pub least_within : (ms : List Bool) → before_least ms ≤ length ms
least_within [] = omega arith
least_within (true ∷ ms) = omega arith
least_within (false ∷ ms) = let r = least_within ms in omega arith

pub least_is : (ms : List Bool) (p : ℕ) → IsLeast ms p → before_least ms ≡ p
least_is [] p l = absurd (let h = l.here in cc)
least_is (true ∷ ms) zero l = refl
least_is (true ∷ ms) (suc p) l = absurd (let h = l.least 0 (omega arith) in cc)
least_is (false ∷ ms) zero l = absurd (let h = l.here in cc)
least_is (false ∷ ms) (suc p) l = ap suc (least_is ms p (record { here = l.here; least = λ k h. l.least (suc k) (omega arith) }))

-- no place up to so many is marked
none_up_to : (ms : List Bool) (p : ℕ) → p ≤ length ms → ((k : ℕ) → k < p → marked ms k ≡ false) → p ≤ before_least ms
none_up_to ms zero h n = omega arith
none_up_to [] (suc p) h n = absurd (omega arith)
none_up_to (true ∷ ms) (suc p) h n = absurd (let f = n 0 (omega arith) in cc)
none_up_to (false ∷ ms) (suc p) h n = let r = none_up_to ms p (omega arith) (λ k l. n (suc k) (omega arith)) in omega arith

pub none_marked : (ms : List Bool) → ((p : ℕ) → marked ms p ≡ false) → before_least ms ≡ length ms
none_marked ms n = let a = none_up_to ms (length ms) (omega arith) (λ k h. n k) in let b = least_within ms in omega arith

pub set_length : (ms : List Bool) (p : ℕ) (b : Bool) → length (set ms p b) ≡ length ms
set_length [] p b = refl
set_length (m ∷ ms) zero b = refl
set_length (m ∷ ms) (suc p) b = ap suc (set_length ms p b)

-- where the least marked place is taken, the next one stands behind it
pub taken_least : (ms : List Bool) (p : ℕ) → IsLeast ms p → p < before_least (set ms p false)
taken_least ms p l =
    let w = marked_within ms p l.here in
    let n = set_length ms p false in
    none_up_to (set ms p false) (suc p) (omega arith) (λ k h. elim (cases_eq k p) [
      | inl e ↦ ap (marked (set ms p false)) e ∙ marked_set ms p false w
      | inr e ↦ marked_other ms p k false e ∙ l.least k (omega (arith, e))
    ])

-- what is marked still is, when another place is
pub still_marked : (ms : List Bool) (p q : ℕ) → p < length ms → marked ms q ≡ true → marked (set ms p true) q ≡ true
still_marked ms p q w h = elim (cases_eq q p) [
  | inl e ↦ ap (marked (set ms p true)) e ∙ marked_set ms p true w
  | inr e ↦ marked_other ms p q true e ∙ h
]

pub stay_set : (ms : List Bool) (p : ℕ) → p < length ms → StayMarked ms (set ms p true)
stay_set ms p w = record { as_many = set_length ms p true; stay = λ q. still_marked ms p q w }

pub stay_both : (a b c : List Bool) → StayMarked a b → StayMarked b c → StayMarked a c
stay_both a b c s t = record { as_many = t.as_many ∙ s.as_many; stay = λ p h. t.stay p (s.stay p h) }

-- where marks were only added, what isn't marked wasn't before
pub was_unmarked : (a b : List Bool) (p : ℕ) → StayMarked a b → marked b p ≡ false → marked a p ≡ false
was_unmarked a b p s h = elim (cases_Bool (marked a p)) [
  | inl t ↦ absurd (let u = s.stay p t in let bad : true ≡ false = sym u ∙ h in cc)
  | inr f ↦ f
]

-- a place that isn't marked any more is the taken one, or wasn't before
pub untaken : (ms : List Bool) (p q : ℕ) → marked (set ms p false) q ≡ false → (q ≡ p → ⊥) → marked ms q ≡ false
untaken ms p q h n = sym (marked_other ms p q false n) ∙ h

-- how many places are still to be looked at, where the least one is taken
pub measure_taken : (ms ns : List Bool) (p : ℕ) → IsLeast ms p → ns ≡ set ms p false → length ns - before_least ns < length ms - before_least ms
measure_taken ms ns p l e =
    let a = taken_least ms p l in
    let b = least_is ms p l in
    let w = least_within (set ms p false) in
    let n = set_length ms p false in
    subst (λ (xs : List Bool). length xs - before_least xs < length ms - before_least ms) (sym e) (omega arith)

-- a marked place is the taken one, or still to be taken
pub taken_left : (ms ns : List Bool) (p q : ℕ) → ns ≡ set ms p false → marked ms q ≡ true → (q ≡ p) ⊎ (marked ns q ≡ true)
taken_left ms ns p q e h = elim (cases_eq q p) [
  | inl f ↦ inl f
  | inr f ↦ inr (ap (λ (xs : List Bool). marked xs q) e ∙ marked_other ms p q false f ∙ h)
]

-- the places of a list are marked, one more of them
pub one_more : (first now more : List Bool) (places : List ℕ) (n p : ℕ) → StayMarked first now → ((k q : ℕ) → k < n → slice_get places k ≡ Some q → marked now q ≡ true) → more ≡ set now p true → p < length now → slice_get places n ≡ Some p
    → StayMarked first more × ((k q : ℕ) → k < n + 1 → slice_get places k ≡ Some q → marked more q ≡ true)
one_more first now more places n p s these e w at =
    let t : StayMarked now more = subst (λ (ms : List Bool). StayMarked now ms) (sym e) (stay_set now p w) in (
      stay_both first now more s t,
      λ k q h f. elim (cases_eq k n) [
        | inl same ↦ (
            let here : p ≡ q = same_Some p q (sym at ∙ ap (slice_get places) (sym same) ∙ f) in
            ap (λ (ms : List Bool). marked ms q) e ∙ ap (marked (set now p true)) (sym here) ∙ marked_set now p true w
            )
        | inr other ↦ t.stay q (these k q (omega (arith, other)) f)
      ],
    )

pub stay_now : (ms ns : List Bool) (p : ℕ) → p < length ms → ns ≡ set ms p true → StayMarked ms ns
stay_now ms ns p w e = subst (λ (xs : List Bool). StayMarked ms xs) (sym e) (stay_set ms p w)

pub marked_now : (ms ns : List Bool) (p : ℕ) → p < length ms → ns ≡ set ms p true → marked ns p ≡ true
marked_now ms ns p w e = ap (λ (xs : List Bool). marked xs p) e ∙ marked_set ms p true w

-- the least marked place moves on, and stays within the n places
pub least_on : (ms ns : List Bool) (p n : ℕ) → IsLeast ms p → ns ≡ set ms p false → length ms ≡ n → (before_least ms < before_least ns) × (before_least ns ≤ n)
least_on ms ns p n l e m =
    let a = taken_least ms p l in
    let b = least_is ms p l in
    let w = least_within (set ms p false) in
    let k = set_length ms p false in
    let same : before_least ns ≡ before_least (set ms p false) = ap before_least e in
    (omega arith, omega arith)
