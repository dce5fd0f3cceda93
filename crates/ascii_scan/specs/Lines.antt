-- The lines of a text, each with its newline, which the last may lack. Their concatenation is the text.
use Rattle.std.specs.Prelude.{◌≡◌, ℕ, ◌+◌, ◌-◌, ◌==◌, ◌||◌, Bool, false, List, [], ◌∷◌, ◌++◌, length, take, drop, if◌then◌else◌}
use Rattle.std.specs.List.{concat, flat_map, All}

-- the most bytes of a text that is read, and of a table's text that is made
abbrev pub text_limit : ℕ
text_limit = 67108864

-- the byte put in front of the first line
abbrev pub onto_first : ℕ → List (List ℕ) → List (List ℕ)
onto_first b [] = (b ∷ []) ∷ []
onto_first b (l ∷ ls) = (b ∷ l) ∷ ls

-- a newline is the last byte of its line
unfoldable pub lines_of : List ℕ → List (List ℕ)
lines_of [] = []
lines_of (b ∷ bs) = if b == 10 then (b ∷ []) ∷ lines_of bs else onto_first b (lines_of bs)

-- a line without its newline
abbrev pub content_of : List ℕ → List ℕ
content_of [] = []
content_of (b ∷ bs) = if b == 10 then [] else b ∷ content_of bs

-- whether a newline ends the line
abbrev pub is_ended : List ℕ → Bool
is_ended [] = false
is_ended (b ∷ bs) = b == 10 || is_ended bs

-- a line of a text: its number from 1, where it starts and where its newline or the text's end is, its bytes without the newline, and whether a newline ends it
pub record Placed : Type 0 where
  pub number : ℕ
  pub start : ℕ
  pub end : ℕ
  pub text : List ℕ
  pub is_ended : Bool

abbrev pub placed : ℕ → ℕ → List ℕ → Placed
placed number start line = record {
  number = number;
  start = start;
  end = start + length (content_of line);
  text = content_of line;
  is_ended = is_ended line;
}

-- lines in order, where `number` and `start` are those of the first
abbrev pub placed_from : ℕ → ℕ → List (List ℕ) → List Placed
placed_from number start [] = []
placed_from number start (line ∷ lines) = placed number start line ∷ placed_from (number + 1) (start + length line) lines

-- the lines of a text
abbrev pub lines_in : List ℕ → List Placed
lines_in bytes = placed_from 1 0 (lines_of bytes)

-- the bytes of a line with its newline
abbrev pub whole : Placed → List ℕ
whole l = if l.is_ended then l.text ++ 10 ∷ [] else l.text

-- the lines of a text joined are the text
abbrev pub LinesJoinToText : Type 0
LinesJoinToText = (bytes : List ℕ) → (concat (lines_of bytes) ≡ bytes) × (flat_map whole (lines_in bytes) ≡ bytes)

-- each line's bytes are those of the text from its start to before its end
abbrev pub LinesAreSlices : Type 0
LinesAreSlices = (bytes : List ℕ) → All (λ l. l.text ≡ take (l.end - l.start) (drop l.start bytes)) (lines_in bytes)
