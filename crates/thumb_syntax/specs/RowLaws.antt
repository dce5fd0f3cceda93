-- The forms as a relation between texts and what they are read as, in which their order doesn't matter.
use Rattle.std.specs.Prelude.{◌≡◌, ◌↔◌, ℕ, List, [], ◌∷◌, ◌++◌, map, Option, Some, None, slice_get}
use Rattle.ascii_scan.specs.Tokens.{Token, word as text, mark, tokens}
use Rattle.thumb_syntax.specs.Operands.{operand}
use Rattle.thumb_syntax.specs.Rows.{Row, data_rows, memory_rows, control_rows, Shown, read_as, reading}

-- all forms
unfoldable pub rows : List Row
rows = data_rows ++ (memory_rows ++ control_rows)

-- what a statement is read as by one form
abbrev pub by_row : Row → List Token → Option Shown
by_row r [] = None
by_row r (text w ∷ ts) = read_as w (map operand ts) r
by_row r (mark m ∷ ts) = None

-- some form reads the text as this
pub record Reads (bytes : List ℕ) (s : Shown) : Type 0 where
  pub place : ℕ
  pub row : Row
  pub is_there : slice_get rows place ≡ Some row
  pub reads : by_row row (tokens bytes) ≡ Some s

-- a text is read as an instruction exactly where some form reads it as that
abbrev pub ReadsBySomeRow : Type 0
ReadsBySomeRow = (bytes : List ℕ) (s : Shown) → (reading bytes ≡ Some s) ↔ Reads bytes s

-- no two forms read one text as different instructions
abbrev pub RowsAgree : Type 0
RowsAgree = (bytes : List ℕ) (s t : Shown) → Reads bytes s → Reads bytes t → s ≡ t
