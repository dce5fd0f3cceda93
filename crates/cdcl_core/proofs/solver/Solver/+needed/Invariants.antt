use Rattle.std.proofs.Common.{length}
use Rattle.cdcl_core.proofs.solver.Solver.+needed.Given as goal

abbrev pub decreases-needed : goal.decreases-needed
decreases-needed l = length l.literals.now
