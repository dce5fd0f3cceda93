use Rattle.rule_model.proofs.LinesKept.{cost_falls, no_more_places, few_lines}
use Rattle.rule_model.proofs.laws.rewriting_lowers.Goals as goal

pub returns : goal.returns
returns c = λ s ls rs new kept sound h. (cost_falls s ls rs new kept sound h, no_more_places s ls rs new sound h, few_lines s ls rs new h)
