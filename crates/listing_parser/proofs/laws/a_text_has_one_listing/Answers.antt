use Rattle.listing_parser.proofs.MadeLemmas.{one_listing}
use Rattle.listing_parser.proofs.laws.a_text_has_one_listing.Goals as goal

pub returns : goal.returns
returns c = one_listing
