use Rattle.cdcl_core.specs.Implied.{clauses_of}
use Rattle.cdcl_core.proofs.Conflicts.{Resolved}
use Rattle.cdcl_core.proofs.solver.Solver.analyse.Given as goal

abbrev pub invariant-loop-at : goal.invariant-loop-at
invariant-loop-at l = Resolved (clauses_of l.self.arena) l.self.trail l.start l.at l.seen

abbrev pub decreases-loop-at : goal.decreases-loop-at
decreases-loop-at l = l.at
