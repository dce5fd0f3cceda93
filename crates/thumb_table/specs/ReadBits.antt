-- Which numbers agree with a row, and how an instruction's registers and numbers are read from them.
use Rattle.thumb_table.specs.Table.{width, same}
use Rattle.std.specs.Prelude.{ℕ, ◌+◌, ◌*◌, ◌/◌, ◌%◌, ◌^◌, ◌==◌, ◌&&◌, Bool, true, false, nat_le, nat_lt, List, [], ◌∷◌, if◌then◌else◌}
use Rattle.thumb_table.specs.declared.row.OperandPosition.{OperandPosition}
use Rattle.thumb_table.specs.declared.row.OperandPosition.TheVariants as position
use Rattle.thumb_table.specs.declared.row.Piece.{Piece}
use Rattle.thumb_table.specs.declared.row.Piece.TheVariants.{Fixed, Bits, Amount, Same}

-- whether a piece can hold a number
abbrev pub holds : Piece → ℕ → Bool
holds (Fixed w x) n = n == x
holds (Bits w o from least) n = nat_le least n
holds p n = true

-- the number has the row's fixed bits, and each other piece has at least its least value
unfoldable pub agrees : List Piece → ℕ → Bool
agrees [] c = true
agrees (p ∷ ps) c = holds p (c / 2 ^ width ps) && agrees ps (c % 2 ^ width ps)

-- ---- reading ----

abbrev pub is_operand : OperandPosition → OperandPosition → Bool
is_operand position.First position.First = true
is_operand position.Second position.Second = true
is_operand position.Third position.Third = true
is_operand o p = false

-- a register or number so far, after a piece with value v; n is what earlier pieces gave
abbrev pub told : Piece → ℕ → ℕ → ℕ
told (Fixed w x) v n = n
told (Bits w o from least) v n = n + v * 2 ^ from
told (Amount w o) v n = n + (if v == 0 then 2 ^ w else v)
told (Same o a b) v n = n + same v (n / 2 ^ b % 2) * 2 ^ a

-- whether a piece holds bits of this register or number
abbrev pub is_about : OperandPosition → Piece → Bool
is_about o (Fixed w x) = false
is_about o (Bits w p from least) = is_operand o p
is_about o (Amount w p) = is_operand o p
is_about o (Same p a b) = is_operand o p

-- the register or number that a code holds; n is what the pieces before gave
unfoldable pub read_on : OperandPosition → List Piece → ℕ → ℕ → ℕ
read_on o [] c n = n
read_on o (p ∷ ps) c n = read_on o ps (c % 2 ^ width ps) (if is_about o p then told p (c / 2 ^ width ps) n else n)

-- ---- the rows' bounds ----

-- the bits of a number that a piece holds are below bit 24, and a fixed value fits its width
abbrev pub is_narrow : Piece → Bool
is_narrow (Fixed w x) = nat_lt x (2 ^ w)
is_narrow (Bits w o from least) = nat_le (from + w) 24
is_narrow (Amount w o) = nat_lt w 24
is_narrow (Same o a b) = nat_lt a 24 && nat_lt b 24

unfoldable pub are_narrow : List Piece → Bool
are_narrow [] = true
are_narrow (p ∷ ps) = is_narrow p && are_narrow ps

-- an upper bound of what a row's pieces contribute to a number
abbrev pub most_of : Piece → ℕ
most_of (Fixed w x) = 0
most_of (Bits w o from least) = 2 ^ w * 2 ^ from
most_of (Amount w o) = 2 ^ w
most_of (Same o a b) = 2 ^ a

abbrev pub most : List Piece → ℕ
most [] = 0
most (p ∷ ps) = most_of p + most ps
