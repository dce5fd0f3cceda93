use Rattle.lrat_check.proofs.Parts.{trimmed_refutes, trimmed_named, trimmed_again}
use Rattle.lrat_check.proofs.laws.trimmed_lines_are_needed.Goals as goal

pub returns-clause-refute : goal.returns-clause-refute
returns-clause-refute c = λ clauses lines trimmed r t. trimmed_refutes clauses lines trimmed r t

pub returns-clause-named : goal.returns-clause-named
returns-clause-named c = λ clauses lines trimmed r t. trimmed_named clauses lines trimmed r t

pub returns-clause-stay : goal.returns-clause-stay
returns-clause-stay c = λ clauses lines trimmed r t. trimmed_again clauses lines trimmed r t
