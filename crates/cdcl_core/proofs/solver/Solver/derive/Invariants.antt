use Rattle.cdcl_core.specs.Implied.{clauses_of}
use Rattle.cdcl_core.proofs.Hints.{Noting}
use Rattle.cdcl_core.proofs.solver.Solver.derive.Given as goal

abbrev pub invariant-loop-at : goal.invariant-loop-at
invariant-loop-at l = Noting (clauses_of l.self.arena) l.self.ids.items l.self.trail l.givens l.at l.seen l.hints.items

abbrev pub decreases-loop-at : goal.decreases-loop-at
decreases-loop-at l = l.at
