use Rattle.cnf_gates.proofs.Giving.{and_gives, or_gives, xor_gives, ite_gives}
use Rattle.cnf_gates.proofs.laws.operations_give_their_functions.Goals as goal

pub returns-clause-and : goal.returns-clause-and
returns-clause-and c = and_gives

pub returns-clause-or : goal.returns-clause-or
returns-clause-or c = or_gives

pub returns-clause-xor : goal.returns-clause-xor
returns-clause-xor c = xor_gives

pub returns-clause-ite : goal.returns-clause-ite
returns-clause-ite c = ite_gives
