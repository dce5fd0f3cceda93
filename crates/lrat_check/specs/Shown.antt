-- An addition that trimming has looked at, cut to the hints that it needs, and the additions that these mark.
use Rattle.std.specs.Prelude.{ℕ, ◌≡◌, ◌<◌, ◌⊎◌, ◌↔◌, Bool, false, List, Contains, IsTrue, length, slice_index, slice_index_or, take}
use Rattle.lrat_check.specs.declared.shown.Shown.{Shown}
use Rattle.lrat_check.specs.Text.{Content, addition, id_of}

-- the addition with the hints that were looked at
abbrev pub cut_of : Shown → Content
cut_of shown = addition shown.addition.now.id shown.addition.now.literals.items (take shown.hints shown.addition.now.hints.items)

abbrev pub IsBefore : Content → Content → Type 0
IsBefore line later = id_of line < id_of later

-- the places whose ids are among the names are marked too
pub record MarksNamed (ids names : List ℕ) (old new : List Bool) : Type 0 where
  pub same : length new ≡ length old
  pub marked : (k : ℕ) → IsTrue (slice_index_or new k false) ↔ (IsTrue (slice_index_or old k false) ⊎ ((k < length ids) × Contains names (slice_index ids k)))
