use Rattle.listing_laws.proofs.Assembled.{assembled_listings_fit}
use Rattle.listing_laws.proofs.laws.assembled_listings_fit.Goals as goal

pub returns : goal.returns
returns c = assembled_listings_fit
