use Rattle.listing_parser.proofs.PrintLemmas.{prints_back}
use Rattle.listing_parser.proofs.laws.listings_print_back.Goals as goal

pub returns : goal.returns
returns c = prints_back
