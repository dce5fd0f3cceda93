use Rattle.flow_tidy.proofs.Worked.{small_listings}
use Rattle.flow_tidy.proofs.laws.small_listings_are_tidied.Goals as goal

pub returns : goal.returns
returns c = small_listings
