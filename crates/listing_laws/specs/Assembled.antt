-- The laid naming of an assembled listing fits it, and so the run of its image follows that of the listing.
use Rattle.std.specs.Prelude.{◌≡◌, ℕ, ◌+◌, ◌^◌, ◌<◌, ◌≤◌, true, List, Some}
use Rattle.thumb_model.specs.Listing.{Name, ListingLine, code_of, places_of, is_mentioned}
use Rattle.thumb_model.specs.Layout.{end_of, set_address}
use Rattle.thumb_model.specs.Naming.{Fits, laid, last_is_call}
use Rattle.thumb_assembler.specs.Bytes.{IsSetBy}
use Rattle.thumb_assembler.specs.Runs.{IsAssembled, ImageFollows}

-- external names have the words that the lines set for them. After a call at the end the range has two more bytes: no mentioned name is set to one of these
pub record IsOutside (base : ℕ) (set : Name → ℕ) (lines : List ListingLine) : Type 0 where
  pub set_by : IsSetBy lines set
  pub words : (n : Name) → set n < 2 ^ 32
  pub behind : last_is_call (places_of lines) ≡ true → (n : Name) (address : ℕ) → is_mentioned n (places_of lines) ≡ true → set_address n lines ≡ Some address
      → end_of base lines ≤ address → end_of base lines + 2 ≤ address

-- the laid naming of an assembled listing fits it
abbrev pub AssembledListingsFit : Type 0
AssembledListingsFit = (base : ℕ) (set : Name → ℕ) (lines : List ListingLine) (bytes : List ℕ) → IsAssembled base lines bytes → IsOutside base set lines → Fits (laid base set lines) (code_of lines)

-- and so the run of its image follows that of the listing
abbrev pub AssembledImagesFollow : Type 0
AssembledImagesFollow = (base : ℕ) (set : Name → ℕ) (lines : List ListingLine) (bytes : List ℕ) → IsAssembled base lines bytes → IsOutside base set lines → ImageFollows base set lines bytes lines
