use Rattle.thumb_assembler.proofs.Meeting.{images_follow}
use Rattle.thumb_assembler.proofs.laws.images_follow_listings.Goals as goal

pub returns : goal.returns
returns c = images_follow
