use Rattle.std.proofs.Common.{take, map}
use Rattle.clause_model.specs.Clauses.{code_of}
use Rattle.cdcl_core.proofs.Statements.{Reaches}
use Rattle.cdcl_core.proofs.formulas.reach_of.Given as goal

abbrev pub invariant-loop-number : goal.invariant-loop-number
invariant-loop-number l = Reaches l.from l.reach (map code_of (take l.number-index l.numbers))
