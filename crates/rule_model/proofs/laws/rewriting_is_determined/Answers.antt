use Rattle.rule_model.proofs.Unique.{is_determined}
use Rattle.rule_model.proofs.laws.rewriting_is_determined.Goals as goal

pub returns : goal.returns
returns c = is_determined
