use Rattle.listing_parser.specs.Parsing.{own_line}
use Rattle.edited_listing.proofs.Unchanged.{lines_unchanged, unchanged_edited}
use Rattle.edited_listing.proofs.laws.unchanged_is_edited.Goals as goal

pub returns : goal.returns
returns c = λ ls. (unchanged_edited ls, lines_unchanged own_line ls 0)
