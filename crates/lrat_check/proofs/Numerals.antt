-- Decimal numerals with a sign.
use Rattle.std.proofs.Common.{◌≡◌, ℕ, zero, suc, ℤ, pos, negsuc, ◌+◌, ◌*◌, ◌/◌, ◌%◌, ◌<◌, ◌≤◌, ◌^◌, List, [], ◌∷◌, ◌++◌, length, length-append, refl, sym, ◌∙◌, ap, subst, arith, w64, Result, Ok, Err, inl, inr, nat_eq, true, false, Option, Some, None}
use Rattle.std.specs.Prelude.{FitsSigned, MatchOption, decimal}
use Rattle.std.specs.Fmt.{signed_decimal}
use Rattle.std.specs.Int.Signed.{mag}
use Rattle.std.specs.Str.{IsUtf8}
use Rattle.std.specs.Str.Parse.{ParsesSigned}
use Rattle.std.proofs.lemmas.Bool.Decides.{nat_tests}
use Rattle.std.proofs.lemmas.Bool.{cases_eq, false≢true}
use Rattle.std.proofs.lemmas.Int.{to_z-of_z}
use mir.Val.{to_z, of_z}
use Rattle.std.proofs.lemmas.Str.{IsUtf8-from_ascii}
use Rattle.std.proofs.lemmas.Fmt.{IsAscii-signed, parse-signed_decimal, signed_decimal_injective, decimal_digit, decimal_by_steps, length-decimal-le}
use Rattle.clause_model.specs.Clauses.{number_of}
use Rattle.lrat_check.specs.Numbers.{IsId, IsHint}

mag_small : (z : ℤ) → FitsSigned w64 z → mag z < 2 ^ 63
mag_small (pos n) f = omega (arith, f)
mag_small (negsuc n) f = omega (arith, f)

module _ (z : ℤ) (f : FitsSigned w64 z) (bs : List ℕ) (e : signed_decimal z ≡ bs) where
  -- a numeral is text, and is read as its number
  pub numeral_is_text : IsUtf8 bs
  numeral_is_text = subst IsUtf8 e (IsUtf8-from_ascii (signed_decimal z) (IsAscii-signed z (mag_small z f)))

  pub numeral_parses : {E : Type 0} (r : Result ℤ E) → ParsesSigned w64 10 bs r → r ≡ Ok z
  numeral_parses {E} r h = parse-signed_decimal w64 z bs r f (mag_small z f) (sym e) h

-- two numbers with the same numeral are equal
pub same_number : (y z : ℤ) (bs : List ℕ) → FitsSigned w64 y → FitsSigned w64 z → signed_decimal y ≡ bs → signed_decimal z ≡ bs → y ≡ z
same_number y z bs f g d e = signed_decimal_injective y z (mag_small y f) (mag_small z g) (d ∙ sym e)

pub id_fits : (n : ℕ) → IsId n → FitsSigned w64 (pos n)
id_fits n h = omega (arith, h.1)

pub hint_fits : (z : ℤ) → IsHint z → FitsSigned w64 z
hint_fits (pos n) h = omega (arith, h.1)
hint_fits (negsuc n) h = omega (arith, h.1)

pub literal_fits : (l : ℕ) → l < 400000 → FitsSigned w64 (number_of l)
literal_fits l h = at (l % 2) refl
  where
    at : (n : ℕ) → l % 2 ≡ n → FitsSigned w64 (number_of l)
    at n e = elim (cases_eq (l % 2) 0) [
      | inl z ↦ let f : nat_eq (l % 2) 0 ≡ true = grind (arith, nat_tests) in rw f (let b : l / 2 < 400000 = omega arith in omega arith)
      | inr d ↦ let f : nat_eq (l % 2) 0 ≡ false = grind (arith, nat_tests) in rw f (let b : l / 2 < 400000 = omega arith in omega arith)
    ]

-- a number whose numeral the bytes aren't, though they are read as it
pub numeral_misread : {E : Type 0} (r : Result ℤ E) (y z : ℤ) (bs : List ℕ) → r ≡ Ok y → r ≡ Ok z → FitsSigned w64 z → signed_decimal z ≡ bs → (signed_decimal (to_z w64 (of_z w64 y)) ≡ bs → false ≡ true) → ⊥
numeral_misread r y z bs d e f g n =
    let same : y ≡ z = cc in
    false≢true (n (rw (same, to_z-of_z w64 z f) g))

pub numeral_unread : {E : Type 0} (r : Result ℤ E) (x : E) (z : ℤ) → r ≡ Err x → r ≡ Ok z → ⊥
numeral_unread r x z d e = cc

-- what a number is read as, by its numeral
pub reads : {X : Type 0} (P : X → Type 0) (number : X → ℤ) (fits : (x : X) → P x → FitsSigned w64 (number x)) (word : List ℕ) (z : ℤ) (r : Option X) → FitsSigned w64 z × (signed_decimal z ≡ word) → MatchOption r ((x : X) → P x → number x ≡ to_z w64 (of_z w64 z) → ⊥) (λ x. P x × (number x ≡ to_z w64 (of_z w64 z))) → MatchOption r ((x : X) → P x → signed_decimal (number x) ≡ word → ⊥) (λ x. P x × (signed_decimal (number x) ≡ word))
reads P number fits word z None f h = λ x p e. h x p (same_number (number x) z word (fits x p) f.0 e f.1 ∙ sym (to_z-of_z w64 z f.0))
reads P number fits word z (Some x) f h = (h.0, ap signed_decimal (h.1 ∙ to_z-of_z w64 z f.0) ∙ f.1)

pub reads_none : {X : Type 0} (P : X → Type 0) (number : X → ℤ) (fits : (x : X) → P x → FitsSigned w64 (number x)) (word : List ℕ) → ((z : ℤ) → FitsSigned w64 z → signed_decimal z ≡ word → ⊥) → (x : X) → P x → signed_decimal (number x) ≡ word → ⊥
reads_none P number fits word h x p e = h (number x) (fits x p) e

-- ---- how many digits a numeral has

some_power : (j : ℕ) → 0 < 10 ^ j
some_power zero = omega arith
some_power (suc j) = let p = some_power j in omega (arith, p)

many_digits : (n : ℕ) → n < 2 ^ 64 → (j : ℕ) → 10 ^ j ≤ n → j < length (decimal n)
many_digits = decimal_by_steps (λ m ds. (j : ℕ) → 10 ^ j ≤ m → j < length ds) one more
  where
    one : (m : ℕ) → m < 10 → (j : ℕ) → 10 ^ j ≤ m → j < 1
    one m low zero h = omega arith
    one m low (suc j) h = let p = some_power j in absurd (omega (arith, p, h, low))

    more : (m : ℕ) (ds : List ℕ) → 10 ≤ m → ((j : ℕ) → 10 ^ j ≤ m / 10 → j < length ds) → (j : ℕ) → 10 ^ j ≤ m → j < length (ds ++ (48 + m % 10) ∷ [])
    more m ds l h zero a = omega (arith, length-append ds ((48 + m % 10) ∷ []))
    more m ds l h (suc j) a = omega (arith, length-append ds ((48 + m % 10) ∷ []), h j (omega (arith, a)))

pub digits_by_power : (n k : ℕ) → n < 2 ^ 64 → 10 ^ k ≤ n → n < 10 * 10 ^ k → length (decimal n) ≡ k + 1
digits_by_power n k small low high = omega (arith, many_digits n small k low, length-decimal-le (suc k) n (omega arith) (omega (arith, high)) small)

pub digits_of_zero : length (decimal 0) ≡ 1
digits_of_zero = ap length (decimal_digit 0 (omega arith))
