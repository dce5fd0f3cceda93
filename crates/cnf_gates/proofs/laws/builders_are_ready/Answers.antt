use Rattle.cnf_gates.proofs.Giving.{Ready-inputs, IsExact-inputs, input_grows}
use Rattle.cnf_gates.proofs.Chosen.{Ready-or_clause_of}
use Rattle.cnf_gates.proofs.laws.builders_are_ready.Goals as goal

pub returns-clause-start : goal.returns-clause-start
returns-clause-start c = (Ready-inputs 0, IsExact-inputs 0)

pub returns-clause-input : goal.returns-clause-input
returns-clause-input c = input_grows

pub returns-clause-or_clause : goal.returns-clause-or_clause
returns-clause-or_clause c = Ready-or_clause_of
