-- The first line of a text, and the bytes after it.
use Rattle.std.specs.Prelude.{ℕ, ◌==◌, Bool, not, List, [], ◌∷◌, if◌then◌else◌}

abbrev pub is_inside : ℕ → Bool
is_inside b = not (b == 10)

-- the first line with its newline, which may be missing
abbrev pub first_line : List ℕ → List ℕ
first_line [] = []
first_line (b ∷ bs) = if b == 10 then b ∷ [] else b ∷ first_line bs

abbrev pub after_first : List ℕ → List ℕ
after_first [] = []
after_first (b ∷ bs) = if b == 10 then bs else after_first bs
