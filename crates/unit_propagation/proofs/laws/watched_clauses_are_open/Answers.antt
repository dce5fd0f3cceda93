use Rattle.unit_propagation.proofs.Opened.{opened}
use Rattle.unit_propagation.proofs.laws.watched_clauses_are_open.Goals as goal

pub returns : goal.returns
returns c = λ content a at w d r. opened content a at w d r
