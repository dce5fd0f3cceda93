-- The text of a listing after a replacement is read as exactly the lines that the replacement left.
use Rattle.std.specs.Prelude.{◌≡◌, ℕ, ◌+◌, ◌<◌, ◌≤◌, true, List, length, slice_get}
use Rattle.std.specs.List.{list_all}
use Rattle.thumb_instr.specs.declared.instr.Instr.{Instr}
use Rattle.thumb_model.specs.Listing.{Name, ListingLine, places_of, is_op_place}
use Rattle.thumb_model.specs.Replaced.{replaced_lines}
use Rattle.listing_parser.specs.Targets.{is_code_label}
use Rattle.listing_parser.specs.Replacing.{names_no_label}
use Rattle.listing_parser.specs.Parsing.{own_line, IsListing, text_of_lines}
use Rattle.listing_parser.specs.Grammar.{most_lines}

-- each code label of the old lines is a code label of the new ones
abbrev pub KeepsCode : List ListingLine → List ListingLine → Type 0
KeepsCode lines new = (name : Name) → is_code_label lines name ≡ true → is_code_label new name ≡ true

-- the lines after a replacement: new instructions name no label, no code label was lost, and there are no more lines than a listing may have
pub record AreReplaced (lines : List ListingLine) (place count : ℕ) (instrs : List Instr) (new : List ListingLine) : Type 0 where
  pub are : new ≡ replaced_lines own_line place count instrs lines
  pub some : 1 ≤ count
  pub window : (k : ℕ) → k < count → is_op_place (slice_get (places_of lines) (place + k)) ≡ true
  pub plain : list_all names_no_label instrs ≡ true
  pub kept : KeepsCode lines new
  pub few : length new ≤ most_lines

-- the lines after a replacement, joined, are the listing of these lines
abbrev pub ReplacedReadsAgain : Type 0
ReplacedReadsAgain =
    (bytes : List ℕ) (lines : List ListingLine) (place count : ℕ) (instrs : List Instr) (new : List ListingLine) → IsListing bytes lines → AreReplaced lines place count instrs new → IsListing (text_of_lines new) new
