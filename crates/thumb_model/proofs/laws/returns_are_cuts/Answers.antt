use Rattle.thumb_model.proofs.Returns.{returns_are_cuts}
use Rattle.thumb_model.proofs.laws.returns_are_cuts.Goals as goal

pub returns : goal.returns
returns c = returns_are_cuts
