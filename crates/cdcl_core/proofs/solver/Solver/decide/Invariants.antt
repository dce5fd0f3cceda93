use Rattle.std.proofs.Common.{◌≤◌, ◌+◌, ◌-◌, length}
use Rattle.step_ledger.specs.Counts.{RisesByAtLeast}
use Rattle.cdcl_core.specs.Implied.{level_of}
use Rattle.cdcl_core.proofs.Searches.{Deciding}
use Rattle.cdcl_core.proofs.Solvers.{IsDecided}
use Rattle.cdcl_core.proofs.solver.Solver.decide.Given as goal

abbrev pub invariant-deciding : goal.invariant-deciding
invariant-deciding g l =
    Deciding (level_of l.initial.self.arena l.initial.self.trail l.low) l.self.arena l.self.reasons.items l.self.trail × (l.steps ≤ l.initial.steps + length l.self.trail)
    × RisesByAtLeast l.initial.steps l.steps 0 × IsDecided l.initial.self l.self

abbrev pub decreases-deciding : goal.decreases-deciding
decreases-deciding g l = l.self.variables - length l.self.trail
