use Rattle.edited_listing.proofs.Edits.{edits_reads_again}
use Rattle.edited_listing.proofs.laws.edits_read_again.Goals as goal

pub returns : goal.returns
returns c = edits_reads_again
