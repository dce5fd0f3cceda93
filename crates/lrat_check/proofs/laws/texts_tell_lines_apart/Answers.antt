use Rattle.lrat_check.proofs.Outcomes.{text_of-injective}
use Rattle.lrat_check.proofs.laws.texts_tell_lines_apart.Goals as goal

pub returns : goal.returns
returns c = λ a b g h e. text_of-injective a b g h e
