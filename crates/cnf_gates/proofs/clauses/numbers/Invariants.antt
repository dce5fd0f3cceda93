use Rattle.std.proofs.Common.{◌≡◌, ◌++◌, map, drop}
use Rattle.cnf_gates.specs.Cnf.{AreLiterals}
use Rattle.clause_model.specs.Clauses.{number_of}
use Rattle.cnf_gates.proofs.clauses.numbers.Given as goal

abbrev pub invariant-loop-literal : goal.invariant-loop-literal
invariant-loop-literal l = record {
  done : l.numbers.items ++ map number_of (drop l.literal-index l.literals) ≡ map number_of l.literals;
  literals : AreLiterals l.numbers.items;
}
