use Rattle.listing_parser.proofs.ReplacedLines.{replaced_reads_again}
use Rattle.listing_parser.proofs.laws.replaced_listings_read_again.Goals as goal

pub returns : goal.returns
returns c = replaced_reads_again
