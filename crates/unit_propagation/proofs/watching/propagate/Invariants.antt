use Rattle.std.proofs.Common.{◌-◌, length}
use Rattle.unit_propagation.proofs.Heads.{IsAt}
use Rattle.unit_propagation.proofs.watching.propagate.Given as goal

abbrev pub invariant-loop-head : goal.invariant-loop-head
invariant-loop-head l = IsAt l.fn.arena l.fn.assignment l.fn.reasons.items l.arena l.assignment l.reasons.items l.head

abbrev pub decreases-loop-head : goal.decreases-loop-head
decreases-loop-head l = length l.arena.chains - l.head
