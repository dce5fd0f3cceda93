use Rattle.thumb_model.proofs.Reaches.{reaches_are_fields}
use Rattle.thumb_model.proofs.laws.reaches_are_fields.Goals as goal

pub returns : goal.returns
returns c = reaches_are_fields
