use Rattle.rule_model.proofs.Given.{left_namings_fit}
use Rattle.rule_model.proofs.laws.left_namings_fit_given.Goals as goal

pub returns : goal.returns
returns c = left_namings_fit
