use Rattle.listing_parser.proofs.Namings.{some_naming_fits}
use Rattle.listing_parser.proofs.laws.some_naming_fits.Goals as goal

pub returns : goal.returns
returns c = some_naming_fits
