use Rattle.command_laws.proofs.ImageRuns.{kept_images_follow}
use Rattle.command_laws.proofs.laws.kept_images_follow.Goals as goal

pub returns : goal.returns
returns c = kept_images_follow
