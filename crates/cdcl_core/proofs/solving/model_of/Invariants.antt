use Rattle.std.proofs.Common.{◌≡◌, ℕ, ◌<◌, ◌*◌, length}
use Rattle.std.specs.Prelude.{IsTrue, ◌↔◌, Contains}
use Rattle.cnf_gates.specs.Meaning.{assigned}
use Rattle.cdcl_core.proofs.solving.model_of.Given as goal

abbrev pub invariant-loop-variable : goal.invariant-loop-variable
invariant-loop-variable l = (length l.values.items ≡ l.variable) × ((v : ℕ) → v < l.variable → IsTrue (assigned l.values.items v) ↔ Contains l.trail (2 * v))
