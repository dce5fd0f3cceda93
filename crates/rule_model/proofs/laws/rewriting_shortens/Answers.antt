use Rattle.rule_model.proofs.LinesKept.{places_gone, no_more_lines}
use Rattle.rule_model.proofs.laws.rewriting_shortens.Goals as goal

pub returns : goal.returns
returns c = λ s ls rs new one h. (places_gone s ls rs new one h, no_more_lines s ls rs new one h)
