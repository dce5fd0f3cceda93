use Rattle.lrat_check.proofs.Parts.{trimmed_once}
use Rattle.lrat_check.proofs.laws.lines_have_one_trimming.Goals as goal

pub returns : goal.returns
returns c = λ clauses lines a b p q. trimmed_once clauses lines a b p q
