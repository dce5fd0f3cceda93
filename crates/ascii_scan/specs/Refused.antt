-- The line at which a text is refused that isn't of some kind, such as a table or costs: no text of that kind begins with the lines up to it.
use Rattle.std.specs.Prelude.{◌≡◌, ℕ, ◌+◌, List, [], ◌∷◌, ◌++◌, length}
use Rattle.ascii_scan.specs.Lines.{lines_of}

-- some text of the kind begins with these lines
pub record Begins (IsOf : List ℕ → Type 0) (lines : List (List ℕ)) : Type 0 where
  pub bytes : List ℕ
  pub text : IsOf bytes
  pub rest : List (List ℕ)
  pub whole : lines_of bytes ≡ lines ++ rest

-- after `before` the text ends, and no text of the kind has these lines alone; or no text of the kind begins with them and the next line
abbrev pub Stops : (List ℕ → Type 0) → List (List ℕ) → List (List ℕ) → Type 0
Stops IsOf before [] = (bytes : List ℕ) → IsOf bytes → lines_of bytes ≡ before → ⊥
Stops IsOf before (line ∷ rest) = Begins IsOf (before ++ line ∷ []) → ⊥

-- no text of the kind begins with the first n lines, and n is the least such number; where one begins with all the lines, n is their number plus 1
pub record IsRefused (IsOf : List ℕ → Type 0) (bytes : List ℕ) (n : ℕ) : Type 0 where
  pub before : List (List ℕ)
  pub rest : List (List ℕ)
  pub split : lines_of bytes ≡ before ++ rest
  pub count : n ≡ length before + 1
  pub begins : Begins IsOf before
  pub stops : Stops IsOf before rest
