use Rattle.cnf_gates.proofs.Values.{all_true-clauses_of}
use Rattle.cnf_gates.proofs.Chosen.{all_true-or_clause_of}
use Rattle.cnf_gates.proofs.laws.clauses_mean_what_they_say.Goals as goal

pub returns-clause-gate : goal.returns-clause-gate
returns-clause-gate c = all_true-clauses_of

pub returns-clause-or_clause : goal.returns-clause-or_clause
returns-clause-or_clause c = all_true-or_clause_of
