use Rattle.cdcl_core.proofs.Sparing.{Dropping}
use Rattle.cdcl_core.proofs.dropping.drop_spare.Given as goal

abbrev pub invariant-loop-place : goal.invariant-loop-place
invariant-loop-place l = Dropping l.initial.arena l.refs l.reasons l.trail l.arena l.place
