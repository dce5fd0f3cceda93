-- What the words and marks of an instruction's operands are, and which register a word names.
use Rattle.std.specs.Prelude.{ℕ, List, [], ◌∷◌, Option, Some, None, if◌then◌else◌, ◌==◌, ◌||◌, not, Bool, false, length}
use Rattle.ascii_scan.specs.Names.{is_spelled, name_length, registers}
use Rattle.ascii_scan.specs.Tokens.{Token, word, mark, front, rest}
use Rattle.ascii_scan.specs.Numeral.{numeral}

abbrev pub or_else : {B : Type 0} → Option B → Option B → Option B
or_else None next = next
or_else (Some x) next = Some x

-- the first result that is there
abbrev pub first_some : {A B : Type 0} → (A → Option B) → List A → Option B
first_some f [] = None
first_some f (x ∷ xs) = or_else (f x) (first_some f xs)

abbrev pub number_if : List ℕ → List ℕ × ℕ → Option ℕ
number_if w r = if is_spelled w r.0 then Some r.1 else None

abbrev pub register_in : List (List ℕ × ℕ) → List ℕ → Option ℕ
register_in rs w = first_some (number_if w) rs

-- the register with this name, in either case
unfoldable pub register_named : List ℕ → Option ℕ
register_named w = register_in registers w

-- ---- operands ----

-- `r0`; `r0!`; `r4-r7`; `#5`; a mark; a name; a name and what is added, as `name+4`; anything else
pub data Operand : Type 0 where
  register : ℕ → Operand
  base : ℕ → Operand
  range : ℕ → ℕ → Operand
  number : ℕ → Operand
  sign : ℕ → Operand
  name : List ℕ → Operand
  sum : List ℕ → ℕ → Operand
  stray : Operand

-- no `!`, `+` or `-`
abbrev pub is_plain : ℕ → Bool
is_plain b = not (b == 33 || (b == 43 || b == 45))

abbrev pub range_to : ℕ → Option ℕ → Operand
range_to a None = stray
range_to a (Some b) = range a b

-- what a word is that begins with a register's name, by the bytes after the name
abbrev pub after_register : ℕ → List ℕ → Operand
after_register a [] = register a
after_register a (b ∷ []) = if b == 33 then base a else stray
after_register a (b ∷ c ∷ bs) = if b == 45 then range_to a (register_named (c ∷ bs)) else stray

abbrev pub sum_of : List ℕ → Option ℕ → Operand
sum_of w None = stray
sum_of w (Some i) = sum w i

abbrev pub after_name : List ℕ → List ℕ → Operand
after_name w [] = name w
after_name w (b ∷ bs) = if b == 43 then sum_of w (numeral bs) else stray

abbrev pub or_stray : Option ℕ → Operand
or_stray None = stray
or_stray (Some n) = number n

-- `#` and a numeral
abbrev pub numbered : List ℕ → Operand
numbered [] = stray
numbered (b ∷ bs) = if b == 35 then or_stray (numeral bs) else stray

abbrev pub is_some_of : Option ℕ → ℕ → Bool
is_some_of None n = false
is_some_of (Some m) n = m == n

-- whether all the bytes are one name
abbrev pub is_name : List ℕ → Bool
is_name w = is_some_of (name_length w) (length w)

abbrev pub plain : List ℕ → List ℕ → List ℕ → Operand
plain w f after = if is_name f then after_name f after else numbered w

abbrev pub of_word : Option ℕ → List ℕ → List ℕ → List ℕ → Operand
of_word (Some r) w f after = after_register r after
of_word None w f after = plain w f after

unfoldable pub operand : Token → Operand
operand (word w) = of_word (register_named (front is_plain w)) w (front is_plain w) (rest is_plain w)
operand (mark m) = sign m
