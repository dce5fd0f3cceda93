use Rattle.edited_listing.proofs.Edits.{edits_exchange}
use Rattle.edited_listing.proofs.laws.edits_exchange_places.Goals as goal

pub returns : goal.returns
returns c = edits_exchange
