use Rattle.std.proofs.Common.{◌≡◌, ◌≤◌, ◌+◌, ◌*◌, length}
use Rattle.step_ledger.specs.Counts.{RisesByAtLeast}
use Rattle.clause_model.specs.Clauses.{codes_of}
use Rattle.cdcl_core.proofs.Logs.{Running}
use Rattle.cdcl_core.proofs.solver.Solver.run.Given as goal

abbrev pub invariant-loop-round : goal.invariant-loop-round
invariant-loop-round g l =
    Running (codes_of l.formula.clauses) l.self l.log.items l.round
    × (l.steps ≤ l.initial.steps + l.round * (l.initial.self.variables + 1))
    × RisesByAtLeast l.initial.steps l.steps (length l.log.items)
    × (l.self.variables ≡ l.initial.self.variables)
