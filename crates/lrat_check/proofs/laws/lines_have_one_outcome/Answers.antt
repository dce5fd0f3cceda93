use Rattle.lrat_check.proofs.Faulty.{accepted_or_faulty, one_fault}
use Rattle.lrat_check.proofs.laws.lines_have_one_outcome.Goals as goal

pub returns-clause-accepted : goal.returns-clause-accepted
returns-clause-accepted c = λ old new content fault g a p. accepted_or_faulty old new content fault g a p

pub returns-clause-refused : goal.returns-clause-refused
returns-clause-refused c = λ old content f g h p q. one_fault old content f g h p q
