use Rattle.edited_listing.proofs.Edits.{edits_count}
use Rattle.edited_listing.proofs.laws.edits_count_lines.Goals as goal

pub returns : goal.returns
returns c = edits_count
