use Rattle.std.proofs.Common.{◌≡◌, ◌++◌, map, drop}
use Rattle.cnf_gates.specs.Cnf.{AreClauses}
use Rattle.clause_model.specs.Clauses.{number_of}
use Rattle.cnf_gates.proofs.clauses.all_numbers.Given as goal

abbrev pub invariant-loop-clause : goal.invariant-loop-clause
invariant-loop-clause l = record {
  done : map (λ c. c.items) l.all.items ++ map (λ c. map number_of c.now) (drop l.clause-index l.clauses) ≡ map (λ c. map number_of c.now) l.clauses;
  literals : AreClauses (map (λ c. c.items) l.all.items);
}
