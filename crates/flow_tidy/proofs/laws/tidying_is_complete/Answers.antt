use Rattle.flow_tidy.proofs.Unique.{all_possible, none_left}
use Rattle.flow_tidy.proofs.laws.tidying_is_complete.Goals as goal

pub returns : goal.returns
returns c = λ s ls cs new h. (all_possible s ls cs new h, none_left s ls cs new h)
