-- The invariant of `EditedListing`: what its fields say of the given lines.
use Rattle.std.specs.Prelude.{◌≡◌, ℕ, ◌<◌, ◌^◌, List, Bool, false, length}
use Rattle.thumb_model.specs.Listing.{ListingLine}
use Rattle.listing_parser.specs.Targets.{DefineOnce}
use Rattle.edited_listing.specs.declared.standing.Standing.{Standing}
use Rattle.edited_listing.specs.declared.listing.EditedListing.TheInside.{Inside}
use Rattle.edited_listing.specs.Changes.{marks_of}
use Rattle.edited_listing.specs.Counting.{op_labels}
use Rattle.edited_listing.specs.Edited.{IsEdited, lines_now}

-- the fields agree with what stands at the places of the given lines; where these define no name twice, the lines now don't either
pub record Holds (given : List ListingLine) (stands : List Standing) (gone : List Bool) (changed : Bool) (labelled : List Bool) (lines : ℕ) : Type 0 where
  pub edited : IsEdited (record { given = given; stands = stands })
  pub once : DefineOnce given → DefineOnce (lines_now (record { given = given; stands = stands }))
  pub marks : gone ≡ marks_of stands
  pub few : length stands < 2 ^ 32
  pub same : changed ≡ false → lines_now (record { given = given; stands = stands }) ≡ given
  pub labels : labelled ≡ op_labels given
  pub many : lines ≡ length (lines_now (record { given = given; stands = stands }))
  pub short : length given < 2 ^ 63

abbrev pub IsEditedInside : Inside → Type 0
IsEditedInside s = Holds s.listing s.stands.items s.kept s.is_changed s.labelled.items s.line_count
