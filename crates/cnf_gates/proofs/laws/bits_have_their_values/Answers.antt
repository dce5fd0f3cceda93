use Rattle.cnf_gates.specs.Gates.{and_of, or_of, xor_of, ite_of}
use Rattle.cnf_gates.proofs.Giving.{and_gives, or_gives, xor_gives, ite_gives}
use Rattle.cnf_gates.proofs.Consequences.{value_by_clauses}
use Rattle.cnf_gates.proofs.laws.bits_have_their_values.Goals as goal

pub returns-clause-and : goal.returns-clause-and
returns-clause-and c = λ low b x y h p q m holds. value_by_clauses low 1 b (λ d. and_of d x y) _ h (and_gives low b x y h p q) m holds

pub returns-clause-or : goal.returns-clause-or
returns-clause-or c = λ low b x y h p q m holds. value_by_clauses low 1 b (λ d. or_of d x y) _ h (or_gives low b x y h p q) m holds

pub returns-clause-xor : goal.returns-clause-xor
returns-clause-xor c = λ low b x y h p q m holds. value_by_clauses low 1 b (λ d. xor_of d x y) _ h (xor_gives low b x y h p q) m holds

pub returns-clause-ite : goal.returns-clause-ite
returns-clause-ite c = λ low b k t e h p q r m holds. value_by_clauses low 1 b (λ d. ite_of d k t e) _ h (ite_gives low b k t e h p q r) m holds
