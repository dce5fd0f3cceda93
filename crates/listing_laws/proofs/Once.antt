-- Where no name is defined twice, the search for a name's label finds the only one.
use Rattle.std.proofs.Common.{◌≡◌, ℕ, List, [], Some}
use Rattle.std.specs.Prelude.{slice_get}
use Rattle.thumb_model.specs.Listing.{ListingLine, Label, labels_from}
use Rattle.thumb_model.specs.Steps.{label_place}
use Rattle.listing_parser.specs.Parsing.{IsListing}
use Rattle.listing_parser.proofs.TwiceLemmas.{once_none}
use Rattle.listing_parser.proofs.Namings.{own}
pub use Rattle.listing_parser.proofs.Namings.{either_part}

pub each_once : (bytes : List ℕ) (lines : List ListingLine) → IsListing bytes lines → (k : ℕ) (l : Label) → slice_get (labels_from 0 lines) k ≡ Some l → label_place l.name (labels_from 0 lines) ≡ Some l.place
each_once bytes lines is = own 1 0 [] lines (once_none lines is.once)
