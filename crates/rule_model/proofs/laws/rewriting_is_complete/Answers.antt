use Rattle.rule_model.proofs.LinesKept.{all_applied, none_left}
use Rattle.rule_model.proofs.laws.rewriting_is_complete.Goals as goal

pub returns : goal.returns
returns c = λ s ls rs new h. (all_applied s ls rs new h, none_left s ls rs new h)
