-- Marks of the code points.
use Rattle.std.specs.Prelude.{◌≡◌, ℕ, Bool, true, false, List, [], ◌∷◌, Some, slice_get, ◌↔◌}
use Rattle.thumb_model.specs.Listing.{Name, Code, Statement, Nothing, Instruction, Words, Aligns, Sets, is_call_instr, IsPoint}

-- whether there is a name
abbrev pub some_name : List Name → Bool
some_name [] = false
some_name (n ∷ ns) = true

-- whether the statement is a call
abbrev pub is_call_statement : Statement → Bool
is_call_statement Nothing = false
is_call_statement (Instruction i mention) = is_call_instr i
is_call_statement (Words vs) = false
is_call_statement (Aligns size most) = false
is_call_statement (Sets name address) = false

-- of the places that have marks, those of code points are marked
abbrev pub HasPoints : Code → List Bool → Type 0
HasPoints code marks = (q : ℕ) (b : Bool) → slice_get marks q ≡ Some b → (b ≡ true) ↔ IsPoint code q
