use Rattle.thumb_model.proofs.Small.{live_small}
use Rattle.thumb_model.proofs.laws.only_items_are_live.Goals as goal

pub returns : goal.returns
returns c = live_small
