use Rattle.std.proofs.Common.{ℕ, ◌*◌, ◌<◌}
use Rattle.clause_model.specs.Clauses.{IsUnset}
use Rattle.cdcl_core.proofs.search.pick.Given as goal

abbrev pub invariant-loop-variable : goal.invariant-loop-variable
invariant-loop-variable l = (x : ℕ) → x < 2 * l.variable → IsUnset l.trail x → ⊥
