-- Literal pools: what the equality of a listing and its replacement assumes of them.
use Rattle.std.specs.Prelude.{◌≡◌, ℕ, ◌+◌, ◌/◌, ◌≤◌, Bool, true, false, Option, Some, None, slice_get}
use Rattle.thumb_instr.specs.declared.instr.Instr.{Instr}
use Rattle.thumb_model.specs.Listing.{Mention, Place, Op, Word, Code}
use Rattle.thumb_model.specs.Steps.{label_place, loads_literal}

-- whether the place has a word of data
abbrev pub is_word_place : Option Place → Bool
is_word_place None = false
is_word_place (Some (Op i mention)) = false
is_word_place (Some (Word v)) = true

-- from the label that a literal load mentions up to the word that it loads there are only words of data; the parser accepts no other listing
abbrev pub HasLiterals : Code → Type 0
HasLiterals code = (p : ℕ) (i : Instr) (m : Mention) → slice_get code.places p ≡ Some (Op i (Some m)) → loads_literal i ≡ true →
    (q : ℕ) → label_place m.name code.labels ≡ Some q → (j : ℕ) → j ≤ m.plus / 4 → is_word_place (slice_get code.places (q + j)) ≡ true
