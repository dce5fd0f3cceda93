use Rattle.std.proofs.Common.{◌≡◌, take, map}
use Rattle.clause_model.specs.Clauses.{code_of}
use Rattle.cdcl_core.proofs.formulas.write_codes.Given as goal

abbrev pub invariant-loop-number : goal.invariant-loop-number
invariant-loop-number l = l.codes.items ≡ map code_of (take l.number-index l.numbers)
