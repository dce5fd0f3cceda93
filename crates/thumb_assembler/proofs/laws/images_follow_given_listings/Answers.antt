use Rattle.thumb_assembler.proofs.Meeting.{images_follow_given}
use Rattle.thumb_assembler.proofs.laws.images_follow_given_listings.Goals as goal

pub returns : goal.returns
returns c = images_follow_given
