-- Reading hexadecimal digits: what the words of a state's line are read by.
use Rattle.std.specs.Prelude.{ℕ, ◌-◌, ◌&&◌, nat_le, List, ◌∷◌, ◌++◌, Option, Some, None, if◌then◌else◌}
use Rattle.rule_table.specs.Text.{hex_of}

-- the value of a digit, in lower case
abbrev pub digit_value : ℕ → Option ℕ
digit_value b = if nat_le 48 b && nat_le b 57 then Some (b - 48) else if nat_le 97 b && nat_le b 102 then Some (b - 87) else None

-- two words of eight digits, with a blank before each, and the rest
abbrev pub pair_text : ℕ → ℕ → List ℕ → List ℕ
pair_text v w more = 32 ∷ (hex_of 8 v ++ 32 ∷ (hex_of 8 w ++ more))
