-- Lines in which one instruction replaces a window of two: what the tests of updates need to know.
use Rattle.std.specs.Prelude.{◌≡◌, ℕ, List, [], ◌∷◌, length}
use Rattle.thumb_instr.specs.declared.instr.Instr.{Instr}
use Rattle.thumb_model.specs.Listing.{ListingLine}
use Rattle.thumb_model.specs.Replaced.{replaced_lines, IsWindow}
use Rattle.listing_parser.specs.Parsing.{own_line}

-- a window of two instructions, from the place on, was replaced by the one
pub record GaveWay (before : List ListingLine) (place : ℕ) (instr : Instr) (lines : List ListingLine) : Type 0 where
  pub window : List Instr
  pub two : length window ≡ 2
  pub stood : IsWindow before place window
  pub is : lines ≡ replaced_lines own_line place 2 (instr ∷ []) before
