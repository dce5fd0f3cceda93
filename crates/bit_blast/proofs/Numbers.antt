-- The number that a word stands for: of parts of a word, of words put together, of one bit and of the complement.
use Rattle.std.proofs.Common.{◌≡◌, ℕ, zero, suc, ◌+◌, ◌-◌, ◌*◌, ◌^◌, ◌/◌, ◌%◌, ◌<◌, List, [], ◌∷◌, ◌++◌, Bool, true, false, not, eqb, length, refl, sym, ap, ◌∙◌, arith, subst, take, drop}
use Rattle.std.proofs.Math.Nat.{pow-suc, zero-mod, zero-div}
use Rattle.std.proofs.lemmas.Nat.{pow_pos, shr-shr, mod_below, div-add-mod', mod-mul-add}
use Rattle.std.proofs.lemmas.Nat.Bits.{bit_at-suc, bit_at_lowest, bit_at-zero}
use Rattle.std.specs.Int.{from_bool, bit_at}
use Rattle.cnf_gates.specs.declared.bit.Bit.{Bit}
use Rattle.cnf_gates.specs.declared.bit.Bit.TheVariants.{Constant}
use Rattle.cnf_gates.specs.Meaning.{bit_value}
use Rattle.cnf_gates.specs.Growth.{BitBelow, AllBelow}
use Rattle.cnf_gates.proofs.Values.{bit_value-not_of}
use Rattle.cnf_gates.proofs.Giving.{BitBelow-not_of}
use Rattle.thumb_model.specs.Effect.{complement}
use Rattle.bit_blast.specs.Words.{bit_of, copies, number_bits, inverted}
use Rattle.bit_blast.specs.Exactness.{number_of}
use Rattle.thumb_model.proofs.Held.{bool_small}

-- ---- numbers of bits

pub number_of-lt : (m : ℕ → Bool) (xs : List Bit) → number_of m xs < 2 ^ length xs
number_of-lt m [] = omega arith
number_of-lt m (x ∷ xs) = let h : from_bool (bit_value m x) < 2 = bool_small (bit_value m x) in let k : number_of m xs < 2 ^ length xs = number_of-lt m xs in rw (pow-suc 2 (length xs)) (omega arith)

pub number_lt : (m : ℕ → Bool) (xs : List Bit) → length xs ≡ 32 → number_of m xs < 2 ^ 32
number_lt m xs wide = subst (λ n. number_of m xs < 2 ^ n) wide (number_of-lt m xs)

-- the low bits of a number that gets one more bit below
pub low_places : (x a p : ℕ) → x < 2 → 0 < p → (x + 2 * a) % (p * 2) ≡ x + 2 * (a % p)
low_places x a p h k =
    let below : a % p < p = mod_below a p k in
    let e : x + 2 * a ≡ (a / p) * (p * 2) + (x + 2 * (a % p)) = omega (arith, div-add-mod' a p) in
    ap (λ v. v % (p * 2)) e ∙ mod-mul-add (a / p) (p * 2) (x + 2 * (a % p)) (omega arith)

-- a bit of a word is that bit of its number
pub number_at : (m : ℕ → Bool) (xs : List Bit) (i : ℕ) → from_bool (bit_value m (bit_of xs i)) ≡ bit_at (number_of m xs) i
number_at m [] i = sym (bit_at-zero i)
number_at m (x ∷ xs) zero = let h : from_bool (bit_value m x) < 2 = bool_small (bit_value m x) in rw (bit_at_lowest (from_bool (bit_value m x) + 2 * number_of m xs)) (omega arith)
number_at m (x ∷ xs) (suc i) =
    let h : from_bool (bit_value m x) < 2 = bool_small (bit_value m x) in
    let e : (from_bool (bit_value m x) + 2 * number_of m xs) / 2 ≡ number_of m xs = omega arith in
    number_at m xs i ∙ sym (bit_at-suc (from_bool (bit_value m x) + 2 * number_of m xs) i ∙ ap (λ n. bit_at n i) e)

-- ---- parts of a word

pub number_of-append : (m : ℕ → Bool) (xs ys : List Bit) → number_of m (xs ++ ys) ≡ number_of m xs + 2 ^ length xs * number_of m ys
number_of-append m [] ys = omega arith
number_of-append m (x ∷ xs) ys = rw (pow-suc 2 (length xs), number_of-append m xs ys) (omega arith)

next_low : (x a p : ℕ) → x < 2 → 0 < p → x + 2 * (a % p) ≡ (x + 2 * a) % (p * 2)
next_low x a p h k = sym (low_places x a p h k)

pub number_of-take : (m : ℕ → Bool) (xs : List Bit) (n : ℕ) → number_of m (take n xs) ≡ number_of m xs % 2 ^ n
number_of-take m [] zero = refl
number_of-take m [] (suc n) = sym (zero-mod (2 ^ suc n))
number_of-take m (x ∷ xs) zero = omega arith
number_of-take m (x ∷ xs) (suc n) =
    ap (λ v. from_bool (bit_value m x) + 2 * v) (number_of-take m xs n)
    ∙ next_low (from_bool (bit_value m x)) (number_of m xs) (2 ^ n) (bool_small (bit_value m x)) (pow_pos n)
    ∙ ap (λ p. number_of m (x ∷ xs) % p) (sym (pow-suc 2 n))

pub number_of-drop : (m : ℕ → Bool) (xs : List Bit) (n : ℕ) → number_of m (drop n xs) ≡ number_of m xs / 2 ^ n
number_of-drop m [] zero = refl
number_of-drop m [] (suc n) = sym (zero-div (2 ^ suc n))
number_of-drop m (x ∷ xs) zero = omega arith
number_of-drop m (x ∷ xs) (suc n) =
    let h : from_bool (bit_value m x) < 2 = bool_small (bit_value m x) in
    let e : (from_bool (bit_value m x) + 2 * number_of m xs) / 2 ≡ number_of m xs = omega arith in
    number_of-drop m xs n ∙ ap (λ a. a / 2 ^ n) (sym e) ∙ shr-shr (number_of m (x ∷ xs)) 1 n ∙ ap (λ k. number_of m (x ∷ xs) / 2 ^ k) (let one : 1 + n ≡ suc n = omega arith in one)

-- ---- words of one bit

pub length-copies : (n : ℕ) (x : Bit) → length (copies n x) ≡ n
length-copies zero x = refl
length-copies (suc n) x = ap suc (length-copies n x)

copies_place : (x p : ℕ) → 0 < p → x + 2 * (x * (p - 1)) ≡ x * (p * 2 - 1)
copies_place x p h = let e : p * 2 - 1 ≡ 1 + 2 * (p - 1) = omega arith in rw e (omega arith)

pub number_of-copies : (m : ℕ → Bool) (n : ℕ) (x : Bit) → number_of m (copies n x) ≡ from_bool (bit_value m x) * (2 ^ n - 1)
number_of-copies m zero x = omega arith
number_of-copies m (suc n) x =
    ap (λ v. from_bool (bit_value m x) + 2 * v) (number_of-copies m n x) ∙ copies_place (from_bool (bit_value m x)) (2 ^ n) (pow_pos n)
    ∙ ap (λ p. from_bool (bit_value m x) * (p - 1)) (sym (pow-suc 2 n))

pub number_of-zeros : (m : ℕ → Bool) (n : ℕ) → number_of m (copies n (Constant false)) ≡ 0
number_of-zeros m zero = refl
number_of-zeros m (suc n) = omega (arith, number_of-zeros m n)

-- ---- numbers and complements

pub length-number_bits : (n x : ℕ) → length (number_bits n x) ≡ n
length-number_bits zero x = refl
length-number_bits (suc n) x = ap suc (length-number_bits n (x / 2))

bit_is : (x : ℕ) → from_bool (eqb (x % 2) 1) ≡ x % 2
bit_is x = elim (x % 2) as (λ r. r < 2 → from_bool (eqb r 1) ≡ r) [ zero ↦ λ h. refl | suc r ↦ λ h. one_is r h ] (mod_below x 2 (omega arith))
  where
    one_is : (r : ℕ) → suc r < 2 → from_bool (eqb (suc r) 1) ≡ suc r
    one_is zero h = refl
    one_is (suc r) h = absurd (omega arith)

pub number_of-number_bits : (m : ℕ → Bool) (n x : ℕ) → number_of m (number_bits n x) ≡ x % 2 ^ n
number_of-number_bits m zero x = omega arith
number_of-number_bits m (suc n) x =
    ap (λ v. from_bool (eqb (x % 2) 1) + 2 * v) (number_of-number_bits m n (x / 2))
    ∙ ap (λ v. v + 2 * (x / 2 % 2 ^ n)) (bit_is x)
    ∙ next_low (x % 2) (x / 2) (2 ^ n) (omega arith) (pow_pos n)
    ∙ (let e : x % 2 + 2 * (x / 2) ≡ x = omega arith in ap (λ v. v % (2 ^ n * 2)) e)
    ∙ ap (λ p. x % p) (sym (pow-suc 2 n))

from_bool-not : (b : Bool) → from_bool (not b) + from_bool b ≡ 1
from_bool-not true = refl
from_bool-not false = refl

pub length-inverted : (xs : List Bit) → length (inverted xs) ≡ length xs
length-inverted [] = refl
length-inverted (x ∷ xs) = ap suc (length-inverted xs)

pub number_of-inverted : (m : ℕ → Bool) (xs : List Bit) → number_of m (inverted xs) + number_of m xs + 1 ≡ 2 ^ length xs
number_of-inverted m [] = refl
number_of-inverted m (x ∷ xs) =
    let rest : number_of m (inverted xs) + number_of m xs + 1 ≡ 2 ^ length xs = number_of-inverted m xs in
    let here : from_bool (not (bit_value m x)) + from_bool (bit_value m x) ≡ 1 = from_bool-not (bit_value m x) in
    rw (pow-suc 2 (length xs), bit_value-not_of m x) (omega (arith, rest, here))

pub complement_is : (m : ℕ → Bool) (xs : List Bit) → length xs ≡ 32 → number_of m (inverted xs) ≡ complement (number_of m xs)
complement_is m xs wide =
    let e : number_of m (inverted xs) + number_of m xs + 1 ≡ 2 ^ 32 = number_of-inverted m xs ∙ ap (λ n. 2 ^ n) wide in
    omega (arith, e)

-- ---- bits whose variables were built already

pub AllBelow-append : (v : ℕ) (xs ys : List Bit) → AllBelow v xs → AllBelow v ys → AllBelow v (xs ++ ys)
AllBelow-append v [] ys h k = k
AllBelow-append v (x ∷ xs) ys h k = (h.0, AllBelow-append v xs ys h.1 k)

pub AllBelow-copies : (v n : ℕ) (x : Bit) → BitBelow v x → AllBelow v (copies n x)
AllBelow-copies v zero x h = tt
AllBelow-copies v (suc n) x h = (h, AllBelow-copies v n x h)

pub AllBelow-take : (v n : ℕ) (xs : List Bit) → AllBelow v xs → AllBelow v (take n xs)
AllBelow-take v (suc n) (x ∷ xs) h = (h.0, AllBelow-take v n xs h.1)
AllBelow-take v n xs h = tt

pub AllBelow-drop : (v n : ℕ) (xs : List Bit) → AllBelow v xs → AllBelow v (drop n xs)
AllBelow-drop v zero [] h = tt
AllBelow-drop v zero (x ∷ xs) h = h
AllBelow-drop v (suc n) [] h = tt
AllBelow-drop v (suc n) (x ∷ xs) h = AllBelow-drop v n xs h.1

pub AllBelow-number_bits : (v n x : ℕ) → AllBelow v (number_bits n x)
AllBelow-number_bits v zero x = tt
AllBelow-number_bits v (suc n) x = (tt, AllBelow-number_bits v n (x / 2))

pub AllBelow-inverted : (v : ℕ) (xs : List Bit) → AllBelow v xs → AllBelow v (inverted xs)
AllBelow-inverted v [] h = tt
AllBelow-inverted v (x ∷ xs) h = (BitBelow-not_of v x h.0, AllBelow-inverted v xs h.1)

pub bit_below : (v : ℕ) (xs : List Bit) (i : ℕ) → AllBelow v xs → BitBelow v (bit_of xs i)
bit_below v [] i h = tt
bit_below v (x ∷ xs) zero h = h.0
bit_below v (x ∷ xs) (suc i) h = bit_below v xs i h.1
