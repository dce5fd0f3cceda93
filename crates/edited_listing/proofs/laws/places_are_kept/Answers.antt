use Rattle.listing_parser.specs.Parsing.{own_line}
use Rattle.edited_listing.proofs.Padded.{places_kept}
use Rattle.edited_listing.proofs.laws.places_are_kept.Goals as goal

pub returns : goal.returns
returns c = places_kept own_line
