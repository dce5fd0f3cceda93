use Rattle.std.proofs.Common.{◌≢◌, [], take}
use Rattle.std.specs.Prelude.{All}
use Rattle.cdcl_core.proofs.formulas.has_empty.Given as goal

abbrev pub invariant-loop-i : goal.invariant-loop-i
invariant-loop-i l = All (λ clause. clause ≢ []) (take l.i l.formula.clauses)
