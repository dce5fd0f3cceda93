-- What the reader of a proof's line holds: the words that are left, and a line made of them.
use Rattle.std.specs.Prelude.{ℕ, ◌≡◌, ◌==◌, ◌++◌, ◌∷◌, List, [], Option, Some, None, map}
use Rattle.std.specs.List.{slice_split}
use Rattle.std.specs.Borrow.{Bor}
use Rattle.lrat_check.specs.declared.line.Line.{Line}
use Rattle.lrat_check.specs.Text.{content_of, middle_of, id_of, end_word, HasGoodParts}

-- the words that the slices hold
abbrev pub all_now : List (Bor (List ℕ)) → List (List ℕ)
all_now words = map (λ (w : Bor (List ℕ)). w.now) words

-- the words of the rest of a line, if there is a rest
abbrev pub words_left : Option (Bor (List ℕ)) → List (List ℕ)
words_left None = []
words_left (Some bytes) = slice_split (λ b. b == 32) bytes.now

-- a line with this id and these words after it
pub record IsLineWith (id : ℕ) (words : List (List ℕ)) (line : Line) : Type 0 where
  pub good : HasGoodParts (content_of line)
  pub id' : id_of (content_of line) ≡ id
  pub words' : middle_of (content_of line) ++ end_word ∷ [] ≡ words
