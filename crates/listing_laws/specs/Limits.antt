-- Laid out from a base in its lower half, every listing ends in the Code region of the system address map (0x00000000 to 0x1FFFFFFF).
use Rattle.std.specs.Prelude.{ℕ, ◌^◌, ◌<◌, ◌≤◌, List, length}
use Rattle.ascii_scan.specs.Lines.{text_limit}
use Rattle.thumb_model.specs.Listing.{ListingLine}
use Rattle.thumb_model.specs.Layout.{end_of}
use Rattle.listing_parser.specs.Parsing.{IsListing}

-- from a base in the region's lower half on, a listing whose text has at most `text_limit` bytes ends within the region
abbrev pub TextsEndInCode : Type 0
TextsEndInCode = (base : ℕ) (bytes : List ℕ) (lines : List ListingLine) → IsListing bytes lines → length bytes ≤ text_limit → base ≤ 2 ^ 28 → end_of base lines < 2 ^ 29
