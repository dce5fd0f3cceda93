-- When the naming that the layout gives (`laid`: a code point is named by its address) fits the lines.
use Rattle.std.specs.Prelude.{◌≡◌, ℕ, ◌+◌, ◌%◌, ◌^◌, ◌<◌, true, false, List, ◌++◌, Some, slice_get}
use Rattle.thumb_model.specs.Listing.{Name, ListingLine, Label, code_of, places_of, labels_from, has_label, is_mentioned}
use Rattle.thumb_model.specs.Layout.{end_of}
use Rattle.thumb_model.specs.Naming.{Fits, is_in_range, laid}
use Rattle.thumb_model.specs.Steps.{label_place}

-- the lines end below 2^32, each name has at most one label, and the words of external names lie outside the lines' range
pub record LiesApart (base : ℕ) (set : Name → ℕ) (lines : List ListingLine) : Type 0 where
  -- each line begins at an even address, and the last one ends at one
  pub even : (before after : List ListingLine) → lines ≡ before ++ after → end_of base before % 2 ≡ 0
  pub low : end_of base lines + 2 < 2 ^ 32
  -- each label is the first one of its name
  pub once : (k : ℕ) (l : Label) → slice_get (labels_from 0 lines) k ≡ Some l → label_place l.name (labels_from 0 lines) ≡ Some l.place
  pub words : (n : Name) → set n < 2 ^ 32
  -- the word of a name that is mentioned and has no label is outside the range
  pub outside : (n : Name) → is_mentioned n (places_of lines) ≡ true → has_label n (labels_from 0 lines) ≡ false → is_in_range (laid base set lines) (set n) ≡ false

-- the laid naming of such lines fits them
abbrev pub LaidNamingsFit : Type 0
LaidNamingsFit = (base : ℕ) (set : Name → ℕ) (lines : List ListingLine) → LiesApart base set lines → Fits (laid base set lines) (code_of lines)
