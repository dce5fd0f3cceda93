-- Numerals: decimal without a leading zero, or `0x` and hexadecimal digits of either case.
use Rattle.std.specs.Prelude.{ℕ, ◌+◌, ◌^◌, ◌&&◌, ◌==◌, Bool, false, List, [], ◌∷◌, length, Option, Some, None, if◌then◌else◌, nat_lt}
use Rattle.std.specs.List.{list_all}
use Rattle.std.specs.Char.{is_digit}
use Rattle.std.specs.Str.Parse.{digits_value}

-- the number of at least one digit in a base, below 2 ^ 32
abbrev pub in_base : ℕ → List ℕ → Option ℕ
in_base base ds =
    if nat_lt 0 (length ds) && list_all (λ d. is_digit d base) ds && nat_lt (digits_value base ds) (2 ^ 32)
    then Some (digits_value base ds) else None

-- `0x`
abbrev pub hexadecimal : List ℕ → Option (List ℕ)
hexadecimal [] = None
hexadecimal (a ∷ []) = None
hexadecimal (a ∷ b ∷ ds) = if a == 48 && b == 120 then Some ds else None

abbrev pub has_leading_zero : List ℕ → Bool
has_leading_zero [] = false
has_leading_zero (d ∷ []) = false
has_leading_zero (d ∷ e ∷ ds) = d == 48

abbrev pub decimal : List ℕ → Option ℕ
decimal ds = if has_leading_zero ds then None else in_base 10 ds

abbrev pub numeral_by : List ℕ → Option (List ℕ) → Option ℕ
numeral_by bytes None = decimal bytes
numeral_by bytes (Some ds) = in_base 16 ds

abbrev pub numeral : List ℕ → Option ℕ
numeral bytes = numeral_by bytes (hexadecimal bytes)

-- a hexadecimal digit: `0` to `9` and `a` to `f`
abbrev pub hex_digit : ℕ → ℕ
hex_digit d = if nat_lt d 10 then d + 48 else d + 87
