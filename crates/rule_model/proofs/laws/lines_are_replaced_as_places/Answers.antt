use Rattle.rule_model.proofs.LinesKept.{code_of_after}
use Rattle.rule_model.proofs.laws.lines_are_replaced_as_places.Goals as goal

pub returns : goal.returns
returns c = code_of_after
