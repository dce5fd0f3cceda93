use Rattle.listing_laws.proofs.Room.{texts_end}
use Rattle.listing_laws.proofs.laws.texts_end_in_the_code_region.Goals as goal

pub returns : goal.returns
returns c = texts_end
