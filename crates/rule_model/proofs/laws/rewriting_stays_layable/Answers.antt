use Rattle.rule_model.proofs.LinesKept.{still_layable}
use Rattle.rule_model.proofs.laws.rewriting_stays_layable.Goals as goal

pub returns : goal.returns
returns c = still_layable
