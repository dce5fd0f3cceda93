-- Parsing a text of digits in a base of at most 16 with the standard library gives the specification's value, and a number's own text is read back.
use Rattle.std.proofs.Common.{◌≡◌, ◌∙◌, ℕ, zero, suc, ◌^◌, ◌<◌, ◌≤◌, ◌&&◌, Bool, true, false, List, [], ◌∷◌, length, get_or, Some, None, Result, Ok, Err, refl, sym, ap, arith, rules, cond, lt-ltb, le-ltb, ne_eqb}
use Rattle.std.specs.Prelude.{nat_lt}
use Rattle.std.specs.List.{list_all}
use Rattle.std.specs.Result.{result_ok}
use Rattle.std.specs.Char.{is_digit, digit_value}
use Rattle.std.specs.Str.{IsAscii}
use Rattle.std.specs.Str.Parse.{digits_value, without_leading_plus, AllDigits, ParsesUnsigned}
use Rattle.std.specs.Prelude.{nat_eq}
use Rattle.std.specs.Fmt.{decimal}
use Rattle.std.proofs.lemmas.Bool.{and_parts}
use Rattle.std.proofs.lemmas.Fmt.{decimal_digit, decimal_is_IsNumeral, first_decimal}
use Rattle.ascii_scan.specs.Numeral.{in_base, numeral}

digit_small : (r d : ℕ) → r ≤ 16 → is_digit d r ≡ true → (d < 128) × (48 ≤ d)
digit_small r d high is = grind arith

pub digits_ascii : (r : ℕ) (ds : List ℕ) → r ≤ 16 → list_all (λ d. is_digit d r) ds ≡ true → IsAscii ds
digits_ascii r [] high all i = omega arith
digits_ascii r (d ∷ ds) high all zero = (digit_small r d high (and_parts _ _ all).0).0
digits_ascii r (d ∷ ds) high all (suc i) = digits_ascii r ds high (and_parts (is_digit d r) _ all).1 i

no_plus : (r : ℕ) (ds : List ℕ) → r ≤ 16 → list_all (λ d. is_digit d r) ds ≡ true → without_leading_plus ds ≡ ds
no_plus r [] high all = refl
no_plus r (d ∷ ds) high all = let ge : 48 ≤ d = (digit_small r d high (and_parts _ _ all).0).1 in grind arith

digits_are : (r : ℕ) (ds : List ℕ) → list_all (λ d. is_digit d r) ds ≡ true → AllDigits r ds
digits_are r [] all = tt
digits_are r (d ∷ ds) all = (search rules, digits_are r ds (and_parts (is_digit d r) _ all).1)

-- digits are a numeral exactly where there is at least one and their value is below 2 ^ 32
is_small : (r : ℕ) (ds : List ℕ) → list_all (λ d. is_digit d r) ds ≡ true → 0 < length ds → digits_value r ds < 2 ^ 32 → in_base r ds ≡ Some (digits_value r ds)
is_small r ds all some small = rw (lt-ltb _ _ some, all, lt-ltb _ _ small) refl

not_small : (n : ℕ) (b : Bool) → b ≡ true → (n < 2 ^ 32 → ⊥) → cond (b && nat_lt n (2 ^ 32)) (Some n) None ≡ None
not_small n b all never = rw (all, le-ltb n (2 ^ 32) (omega arith)) refl

is_none : (r : ℕ) (ds : List ℕ) → list_all (λ d. is_digit d r) ds ≡ true → (0 < length ds → digits_value r ds < 2 ^ 32 → ⊥) → in_base r ds ≡ None
is_none r [] all never = refl
is_none r (d ∷ ds) all never = rw (lt-ltb 0 (length (d ∷ ds)) (omega arith)) (not_small (digits_value r (d ∷ ds)) _ all (λ small. never (omega arith) small))

pub parsed : {E : Type 0} (r : ℕ) (ds : List ℕ) (x : Result ℕ E) → r ≤ 16 → list_all (λ d. is_digit d r) ds ≡ true → ParsesUnsigned 32 r ds x → result_ok x ≡ in_base r ds
parsed {E} r ds (Ok v) high all is =
    let known = rw (no_plus r ds high all) at is in
    ap (λ n. Some n) known.1 ∙ sym (is_small r ds all known.0.0.0 known.0.1)
parsed {E} r ds (Err e) high all is =
    let known = rw (no_plus r ds high all) at is in
    sym (is_none r ds all (λ some small. known ((some, digits_are r ds all), small)))

-- ---- a number that was written is read back

all_digits_list : (r : ℕ) (ds : List ℕ) → AllDigits r ds → list_all (λ d. is_digit d r) ds ≡ true
all_digits_list r [] all = refl
all_digits_list r (d ∷ ds) all = rw (lt-ltb (digit_value d) r all.0) (all_digits_list r ds all.1)

-- a text that begins with another byte than `0`, or has one byte, is decimal
plain_decimal : (ds : List ℕ) (n : ℕ) → (get_or ds 0 0 ≡ 48 → length ds ≡ 1) → in_base 10 ds ≡ Some n → numeral ds ≡ Some n
plain_decimal [] n first is = is
plain_decimal (d ∷ []) n first is = is
plain_decimal (d ∷ e ∷ ds) n first is = let other : nat_eq d 48 ≡ false = ne_eqb d 48 (λ same. absurd (let one : suc (suc (length ds)) ≡ 1 = first same in omega arith)) in rw other (rw other is)

first_of_decimal : (n : ℕ) → n < 2 ^ 64 → get_or (decimal n) 0 0 ≡ 48 → length (decimal n) ≡ 1
first_of_decimal zero small e = ap length (decimal_digit 0 (omega arith))
first_of_decimal (suc n) small e = absurd (let more : 48 < get_or (decimal (suc n)) 0 0 = first_decimal (suc n) (omega arith) small in omega arith)

pub numeral_decimal : (n : ℕ) → n < 2 ^ 32 → numeral (decimal n) ≡ Some n
numeral_decimal n small =
    let known = decimal_is_IsNumeral n (omega arith) in
    plain_decimal (decimal n) n (first_of_decimal n (omega arith))
    (is_small 10 (decimal n) (all_digits_list 10 (decimal n) known.0.1) known.0.0 (rw known.1 small) ∙ ap (λ v. Some v) known.1)
