-- The verdict on a text: the lines that it is the listing of, or its refusal; and that there is at most one.
use Rattle.std.specs.Prelude.{◌≡◌, ℕ, List, Result, Ok, Err}
use Rattle.thumb_model.specs.Listing.{ListingLine}
use Rattle.listing_parser.specs.declared.errors.ListingFault.{ListingFault}
use Rattle.listing_parser.specs.declared.errors.ListingError.{ListingError}
use Rattle.listing_parser.specs.declared.errors.ListingError.TheVariants as errors
use Rattle.listing_parser.specs.Parsing.{IsListing, IsRefused, text_of_lines}

-- what reading a text answers, unless memory runs out
abbrev pub Parses : List ℕ → Result (List ListingLine) ListingError → Type 0
Parses bytes (Ok lines) = IsListing bytes lines
Parses bytes (Err (errors.Line n k)) = IsRefused bytes n k
Parses bytes (Err errors.Memory) = Unit {0}

-- a listing's lines, joined, are the text that was read
abbrev pub PrintsBack : Type 0
PrintsBack = (bytes : List ℕ) (lines : List ListingLine) → IsListing bytes lines → text_of_lines lines ≡ bytes

-- a text is the listing of at most one list of lines
abbrev pub OneListing : Type 0
OneListing = (bytes : List ℕ) (lines others : List ListingLine) → IsListing bytes lines → IsListing bytes others → lines ≡ others

-- no text is a listing and refused as well
abbrev pub NotBoth : Type 0
NotBoth = (bytes : List ℕ) (lines : List ListingLine) (n : ℕ) (k : ListingFault) → IsListing bytes lines → IsRefused bytes n k → ⊥

-- the line and the kind by which a text is refused are determined
abbrev pub RefusedOnce : Type 0
RefusedOnce = (bytes : List ℕ) (n m : ℕ) (k j : ListingFault) → IsRefused bytes n k → IsRefused bytes m j → (n ≡ m) × (k ≡ j)

-- there is at most one verdict on a text
pub record OneVerdict : Type 0 where
  pub not_both : NotBoth
  pub refused_once : RefusedOnce
