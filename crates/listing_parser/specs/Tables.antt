-- What a listing keeps beside its lines, so that places and names are found without a search.
use Rattle.std.specs.Prelude.{◌≡◌, ◌<◌, ◌^◌, List, length}
use Rattle.std.specs.Map.{lookup}
use Rattle.thumb_model.specs.Listing.{Name, ListingLine, places_of}
use Rattle.thumb_model.specs.Layout.{set_address}
use Rattle.listing_parser.specs.declared.index.ListingIndex.{ListingIndex}
use Rattle.listing_parser.specs.TableWords.{spots_from, passed_from, runs_from, label_line, is_key}
use Rattle.listing_parser.specs.Targets.{DefineOnce}

-- the tables are those of the lines
pub record IsIndex (lines : List ListingLine) (index : ListingIndex) : Type 0 where
  pub few : length (places_of lines) < 2 ^ 32
  pub once : DefineOnce lines
  pub spots : index.spots.items ≡ spots_from 0 lines
  pub passed : index.passed.items ≡ passed_from 0 lines
  pub runs : index.runs.items ≡ runs_from lines
  pub labels : (name : Name) → lookup (is_key name) index.labels.entries ≡ label_line name 0 lines
  pub addresses : (name : Name) → lookup (is_key name) index.addresses.entries ≡ set_address name lines
