use Rattle.listing_laws.proofs.Assembled.{assembled_images_follow}
use Rattle.listing_laws.proofs.laws.assembled_images_follow.Goals as goal

pub returns : goal.returns
returns c = assembled_images_follow
