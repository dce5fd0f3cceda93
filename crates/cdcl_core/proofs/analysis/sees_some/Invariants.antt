use Rattle.std.proofs.Common.{take, length, ◌≤◌}
use Rattle.std.specs.Prelude.{Any, Contains}
use Rattle.cdcl_core.proofs.analysis.sees_some.Given as goal

abbrev pub invariant-loop-at : goal.invariant-loop-at
invariant-loop-at l = (l.at ≤ length l.part) × (Any (Contains l.seen) l.part → Any (Contains l.seen) (take l.at l.part))

abbrev pub decreases-loop-at : goal.decreases-loop-at
decreases-loop-at l = l.at
