-- Register lists in encodings, as lists of items and as sets of them: the lemmas behind what PUSH, POP, LDM and STM read and write.
use Rattle.std.proofs.Common.{◌≡◌, ◌∙◌, inl, inr, ℕ, ◌+◌, ◌*◌, ◌/◌, ◌%◌, ◌<◌, ◌≤◌, ◌==◌, ◌&&◌, ◌||◌, Bool, true, false, List, [], ◌∷◌, ◌++◌, refl, sym, ap, arith, eqb-true}
use Rattle.std.specs.Prelude.{nat_lt, filter}
use Rattle.std.specs.Int.{bit_at}
use Rattle.std.proofs.Math.Bool.{or-false}
use Rattle.std.proofs.lemmas.Nat.Bits.{bit_at_above, bit_at_cat_low}
use Rattle.std.proofs.lemmas.Bool.{cases_lt, cases_Bool, lt-ltb, le-ltb}
use Rattle.std.proofs.lemmas.Bool.Decides.{nat_tests}
use Rattle.thumb_instr.specs.Items.{one_of, has, lr}
use Rattle.thumb_instr.specs.Shape.{registers_in, pushed}

pub one_of_append : (x : ℕ) (xs ys : List ℕ) → one_of x (xs ++ ys) ≡ (one_of x xs || one_of x ys)
one_of_append x [] ys = refl
one_of_append x (z ∷ xs) ys = step (x == z) (one_of x (xs ++ ys)) (one_of x xs) (one_of x ys) (one_of_append x xs ys)
  where
    step : (t a b c : Bool) → a ≡ (b || c) → (t || a) ≡ ((t || b) || c)
    step true a b c e = refl
    step false a b c e = e

pub one_of_filter : (x : ℕ) (p : ℕ → Bool) (xs : List ℕ) → one_of x (filter p xs) ≡ (one_of x xs && p x)
one_of_filter x p [] = refl
one_of_filter x p (y ∷ ys) = elim (cases_Bool (p y)) [
  | inl e ↦ rw e (kept (x == y) (one_of x (filter p ys)) (one_of x ys) (p x) (one_of_filter x p ys) (λ t. ap p (eqb-true x y t) ∙ e))
  | inr e ↦ rw e (left (x == y) (one_of x (filter p ys)) (one_of x ys) (p x) (one_of_filter x p ys) (λ t. ap p (eqb-true x y t) ∙ e))
]
  where
    kept : (t a b q : Bool) → a ≡ (b && q) → (t ≡ true → q ≡ true) → (t || a) ≡ ((t || b) && q)
    kept true a b q e h = sym (h refl)
    kept false a b q e h = e

    left : (t a b q : Bool) → a ≡ (b && q) → (t ≡ true → q ≡ false) → a ≡ ((t || b) && q)
    left true a true q e h = e
    left true a false q e h = e ∙ sym (h refl)
    left false a b q e h = e

has_low : (n x : ℕ) → has (n % 256) x ≡ (nat_lt x 8 && has n x)
has_low n x = elim (cases_lt x 8) [
  | inl l ↦ rw (lt-ltb x 8 l) (ap (λ b. b == 1) (sym (bit_at_cat_low (n / 256) 8 (n % 256) x l) ∙ ap (λ m. bit_at m x) (let e : n / 256 * 256 + n % 256 ≡ n = omega arith in e)))
  | inr l ↦ rw (le-ltb x 8 l) (ap (λ b. b == 1) (bit_at_above (n % 256) 8 x (omega arith) l))
]

low_registers : (x : ℕ) → one_of x (0 ∷ 1 ∷ 2 ∷ 3 ∷ 4 ∷ 5 ∷ 6 ∷ 7 ∷ []) ≡ nat_lt x 8
low_registers x = grind (arith, nat_tests)

-- the low byte of a register list has the same low registers
pub has_registers : (n x : ℕ) → has (n % 256) x ≡ one_of x (registers_in n)
unfolding registers_in
has_registers n x = has_low n x ∙ (ap (λ b. b && has n x) (sym (low_registers x)) ∙ sym (one_of_filter x (has n) (0 ∷ 1 ∷ 2 ∷ 3 ∷ 4 ∷ 5 ∷ 6 ∷ 7 ∷ [])))

-- bit 8 of a list of nine bits
pub eighth_set : (n : ℕ) → 256 ≤ n → n < 512 → has n 8 ≡ true
eighth_set n h k = let e : n / 256 % 2 ≡ 1 = omega arith in ap (λ b. b == 1) e

pub eighth_clear : (n : ℕ) → n < 256 → has n 8 ≡ false
eighth_clear n h = let e : n / 256 % 2 ≡ 0 = omega arith in ap (λ b. b == 1) e

pub pushed_with : (n x : ℕ) → 256 ≤ n → n < 512 → (one_of x (registers_in n) || (x == lr)) ≡ one_of x (pushed n)
pushed_with n x h k = rw (eighth_set n h k) (sym (one_of_append x (registers_in n) (lr ∷ []) ∙ ap (λ b. one_of x (registers_in n) || b) (or-false (x == lr))))

pub pushed_without : (n x : ℕ) → n < 256 → one_of x (registers_in n) ≡ one_of x (pushed n)
pushed_without n x h = rw (eighth_clear n h) (sym (one_of_append x (registers_in n) [] ∙ or-false (one_of x (registers_in n))))
