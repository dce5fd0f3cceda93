-- Names: a letter, `_`, `.` or `$`, then any of these and digits; a register's name is none.
use Rattle.std.specs.Prelude.{ℕ, ◌&&◌, ◌||◌, ◌==◌, not, Bool, List, [], ◌∷◌, length, map, codes, Option, Some, None, if◌then◌else◌, nat_le}
use Rattle.std.specs.List.{list_any}
use Rattle.std.specs.Str.{bytes_eq}
use Rattle.std.specs.Char.{to_ascii_lowercase}
use Rattle.ascii_scan.specs.Tokens.{front}

abbrev pub is_digit : ℕ → Bool
is_digit b = nat_le 48 b && nat_le b 57

abbrev pub is_letter : ℕ → Bool
is_letter b = (nat_le 65 b && nat_le b 90) || (nat_le 97 b && nat_le b 122)

-- a byte that may begin a name
abbrev pub is_opening : ℕ → Bool
is_opening b = is_letter b || (b == 95 || (b == 46 || b == 36))

-- a byte that may occur in a name
abbrev pub is_name_byte : ℕ → Bool
is_name_byte b = is_opening b || is_digit b

-- each name of a register, in lower case, with the register's number
abbrev pub registers : List (List ℕ × ℕ)
registers =
    (codes "r0", 0) ∷ (codes "r1", 1) ∷ (codes "r2", 2) ∷ (codes "r3", 3) ∷ (codes "r4", 4) ∷ (codes "r5", 5) ∷ (codes "r6", 6) ∷ (codes "r7", 7)
    ∷ (codes "r8", 8) ∷ (codes "r9", 9) ∷ (codes "r10", 10) ∷ (codes "r11", 11) ∷ (codes "r12", 12) ∷ (codes "r13", 13) ∷ (codes "r14", 14)
    ∷ (codes "sb", 9) ∷ (codes "sl", 10) ∷ (codes "fp", 11) ∷ (codes "ip", 12) ∷ (codes "sp", 13) ∷ (codes "lr", 14) ∷ (codes "pc", 15) ∷ []

-- the names of registers, which may be written in upper or lower case
unfoldable pub register_names : List (List ℕ)
register_names = map (λ r. r.0) registers

-- the word is the name, ignoring the case of letters
abbrev pub is_spelled : List ℕ → List ℕ → Bool
is_spelled word name = bytes_eq (map to_ascii_lowercase word) (map to_ascii_lowercase name)

abbrev pub is_register : List ℕ → Bool
is_register word = list_any (is_spelled word) register_names

-- the length of the longest name at the front
abbrev pub name_length : List ℕ → Option ℕ
name_length [] = None
name_length (b ∷ bs) =
    if is_opening b && not (is_register (front is_name_byte (b ∷ bs)))
    then Some (length (front is_name_byte (b ∷ bs))) else None
