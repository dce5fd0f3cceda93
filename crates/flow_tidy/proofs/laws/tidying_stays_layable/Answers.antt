use Rattle.flow_tidy.proofs.Whole.{still_layable}
use Rattle.flow_tidy.proofs.laws.tidying_stays_layable.Goals as goal

pub returns : goal.returns
returns c = still_layable
