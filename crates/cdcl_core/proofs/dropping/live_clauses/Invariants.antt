use Rattle.cdcl_core.specs.Dropped.{Remains}
use Rattle.cdcl_core.proofs.dropping.live_clauses.Given as goal

abbrev pub invariant-loop-place : goal.invariant-loop-place
invariant-loop-place l = Remains l.arena l.refs l.ids l.place l.kept.items l.names.items
