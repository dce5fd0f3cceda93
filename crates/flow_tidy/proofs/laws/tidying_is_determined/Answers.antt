use Rattle.flow_tidy.proofs.Unique.{is_determined}
use Rattle.flow_tidy.proofs.laws.tidying_is_determined.Goals as goal

pub returns : goal.returns
returns c = is_determined
