-- In each listing that was read a name has one label, literals stand behind their labels, and some naming fits it.
use Rattle.std.specs.Prelude.{◌≡◌, ℕ, List, Option, Some, None, slice_get, if◌then◌else◌}
use Rattle.thumb_model.specs.Listing.{Name, Place, ListingLine, code_of, is_op_place, labels_from, place_of, places_of}
use Rattle.thumb_model.specs.Naming.{Naming, Fits}
use Rattle.thumb_model.specs.Steps.{label_place}
use Rattle.thumb_model.specs.Literals.{HasLiterals}
use Rattle.listing_parser.specs.Parsing.{IsListing}

-- from the label that a literal load mentions on there are words of data, up to the one that it loads
abbrev pub LiteralsStand : Type 0
LiteralsStand = (bytes : List ℕ) (lines : List ListingLine) → IsListing bytes lines → HasLiterals (code_of lines)

-- there is a naming that fits the listing
abbrev pub SomeNamingFits : Type 0
SomeNamingFits = (bytes : List ℕ) (lines : List ListingLine) → IsListing bytes lines → (names : Naming) × Fits names (code_of lines)

-- the place, where an instruction stands there
abbrev pub if_op : List Place → Option ℕ → Option ℕ
if_op places None = None
if_op places (Some p) = if is_op_place (slice_get places p) then Some p else None

-- a name's code label is its label, where that is code
abbrev pub CodeLabelsAreLabels : Type 0
CodeLabelsAreLabels = (bytes : List ℕ) (lines : List ListingLine) → IsListing bytes lines → (name : Name) → place_of (code_of lines) name ≡ if_op (places_of lines) (label_place name (labels_from 0 lines))
