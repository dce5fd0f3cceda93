-- How far a pass over lines has come.
use Rattle.std.specs.Prelude.{List}
use Rattle.thumb_model.specs.Listing.{ListingLine}

-- the lines that are emitted, and those that are left
pub record Progress : Type 0 where
  pub emitted : List ListingLine
  pub left : List ListingLine
