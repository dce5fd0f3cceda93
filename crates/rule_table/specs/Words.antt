-- The words of a line with a blank before each, and numbers of them that are bytes: what lists of numbers are read by.
use Rattle.std.specs.Prelude.{◌≡◌, ◌≤◌, ℕ, ◌==◌, List, ◌∷◌, length}
use Rattle.std.specs.List.{All, slice_split}

-- the bytes are a blank and then the words, separated by single blanks
pub record AreWords (bytes : List ℕ) (words : List (List ℕ)) : Type 0 where
  pub rest : List ℕ
  pub is : bytes ≡ 32 ∷ rest
  pub parts : words ≡ slice_split (λ b. b == 32) rest

-- at most 28 numbers, each a byte
pub record AreBytes (numbers : List ℕ) : Type 0 where
  pub few : length numbers ≤ 28
  pub each : All (λ n. n ≤ 255) numbers
