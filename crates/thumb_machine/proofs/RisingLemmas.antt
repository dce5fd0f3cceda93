-- Where words rise from place to place, code points at different places have different words: one pass is enough.
use Rattle.std.proofs.Common.{◌≡◌, ◌∙◌, ◌⊎◌, inl, inr, ℕ, ◌<◌, ◌≤◌, ◌==◌, ◌&&◌, ◌||◌, Bool, true, false, List, [], ◌∷◌, refl, ap₂, arith}
use Rattle.std.specs.Prelude.{nat_lt, not}
use Rattle.std.specs.List.{list_all}
use Rattle.std.proofs.lemmas.Bool.{cases_Bool, and_parts}
use Rattle.thumb_machine.specs.declared.distinct.Rising.{Rising}
use Rattle.thumb_machine.specs.Fitting.{all_apart, apart, risen, rises}
use Rattle.thumb_machine.specs.Walking.{all_pass}
use Rattle.common_lemmas.proofs.Booleans.{eqb_sym}

one_of_two : (a b : Bool) → (a ≡ true) ⊎ (b ≡ false) → (a || not b) ≡ true
one_of_two a b (inl e) = rw e refl
one_of_two true b (inr e) = refl
one_of_two false b (inr e) = rw e refl

apart_places : (v q w p : ℕ) → q ≡ p → apart (v, q) (w, p) ≡ true
apart_places v q w p e = one_of_two (q == p) (v == w) (inl (grind (arith, e)))

apart_words : (v q w p : ℕ) → v < w → apart (v, q) (w, p) ≡ true
apart_words v q w p l = one_of_two (q == p) (v == w) (inr (grind (arith, l)))

-- a code point that came before
abbrev IsBehind : Rising → ℕ → ℕ → Type 0
IsBehind r v q = ((q ≡ r.place) × (v ≤ r.greatest)) ⊎ (v ≤ r.below)

one_more : (r : Rising) (v q w p : ℕ) → r.below ≤ r.greatest → rises r w p ≡ true → IsBehind r v q
    → (apart (v, q) (w, p) ≡ true) × IsBehind (risen r w p) v q
one_more r v q w p order up (inl (same, le)) = elim (cases_Bool (p == r.place)) [
  | inl e ↦ (apart_places v q w p (grind (arith, same, e)), inl (grind (arith, same, e), grind (arith, le)))
  | inr e ↦ (apart_words v q w p (let l : nat_lt r.greatest w ≡ true = rw e at up in grind (arith, l, le)), inr (rw e le))
]
one_more r v q w p order up (inr le) = elim (cases_Bool (p == r.place)) [
  | inl e ↦ (apart_words v q w p (let l : nat_lt r.below w ≡ true = rw e at up in grind (arith, l, le)), inr (rw e le))
  | inr e ↦ (apart_words v q w p (let l : nat_lt r.greatest w ≡ true = rw e at up in grind (arith, l, le, order)), inr (rw e (grind (arith, le, order))))
]

stays_ordered : (r : Rising) (w p : ℕ) → r.below ≤ r.greatest → (risen r w p).below ≤ (risen r w p).greatest
stays_ordered r w p order = elim (cases_Bool (p == r.place)) [ inl e ↦ rw e (grind (arith, order)) | inr e ↦ rw e (grind arith) ]

-- a code point that came before is apart from all that come later
apart_behind : (r : Rising) (v q : ℕ) (xs : List (ℕ × ℕ)) → r.below ≤ r.greatest → all_pass rises risen r xs ≡ true → IsBehind r v q → list_all (apart (v, q)) xs ≡ true
apart_behind r v q [] order up behind = refl
apart_behind r v q (x ∷ xs) order up behind =
    let ups = and_parts (rises r x.0 x.1) (all_pass rises risen (risen r x.0 x.1) xs) up in
    let more = one_more r v q x.0 x.1 order ups.0 behind in
    rw more.0 (apart_behind (risen r x.0 x.1) v q xs (stays_ordered r x.0 x.1 order) ups.1 more.1)

-- ---- each two are apart, where each is apart from those after it ----

apart_sym : (x y : ℕ × ℕ) → apart x y ≡ apart y x
apart_sym x y = ap₂ (λ a b. a || not b) (eqb_sym x.1 y.1) (eqb_sym x.0 y.0)

apart_self : (x : ℕ × ℕ) → apart x x ≡ true
apart_self x = apart_places x.0 x.1 x.0 x.1 refl

all_same : {X : Type 0} (f g : X → Bool) (xs : List X) → ((x : X) → f x ≡ g x) → list_all f xs ≡ list_all g xs
all_same f g [] e = refl
all_same f g (x ∷ xs) e = ap₂ (λ a b. a && b) (e x) (all_same f g xs e)

all_both : {X : Type 0} (f g : X → Bool) (xs : List X) → list_all f xs ≡ true → list_all g xs ≡ true → list_all (λ x. f x && g x) xs ≡ true
all_both f g [] e h = refl
all_both f g (x ∷ xs) e h =
    let es = and_parts (f x) (list_all f xs) e in
    let hs = and_parts (g x) (list_all g xs) h in
    rw (es.0, hs.0) (all_both f g xs es.1 hs.1)

apart_more : (x : ℕ × ℕ) (xs : List (ℕ × ℕ)) → list_all (apart x) xs ≡ true → all_apart xs ≡ true → all_apart (x ∷ xs) ≡ true
apart_more x xs first others =
    rw (apart_self x, first) (all_both (λ y. apart y x) (λ y. list_all (apart y) xs) xs (all_same (λ y. apart y x) (apart x) xs (λ y. apart_sym y x) ∙ first) others)

pub rising_apart : (r : Rising) (xs : List (ℕ × ℕ)) → r.below ≤ r.greatest → all_pass rises risen r xs ≡ true → all_apart xs ≡ true
rising_apart r [] order up = refl
rising_apart r (x ∷ xs) order up =
    let ups = and_parts (rises r x.0 x.1) (all_pass rises risen (risen r x.0 x.1) xs) up in
    let ordered = stays_ordered r x.0 x.1 order in
    apart_more x xs (apart_behind (risen r x.0 x.1) x.0 x.1 xs ordered ups.1 (inl (refl, grind arith))) (rising_apart (risen r x.0 x.1) xs ordered ups.1)

-- ---- in another order ----

-- any two are apart, where tests of all are the same in both
pub apart_all : (xs ys : List (ℕ × ℕ)) → ((f : ℕ × ℕ → Bool) → list_all f xs ≡ list_all f ys) → all_apart xs ≡ all_apart ys
apart_all xs ys same = all_same (λ x. list_all (apart x) xs) (λ x. list_all (apart x) ys) xs (λ x. same (apart x)) ∙ same (λ x. list_all (apart x) ys)
