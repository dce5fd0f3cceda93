use Rattle.edited_listing.proofs.Edits.{edits_replace}
use Rattle.edited_listing.proofs.laws.edits_replace_lines.Goals as goal

pub returns : goal.returns
returns c = edits_replace
