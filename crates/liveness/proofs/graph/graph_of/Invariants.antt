use Rattle.liveness.specs.Graph.{AreCallers, AreReturns}
use Rattle.liveness.proofs.graph.graph_of.Given as goal

abbrev pub invariant-loop-place : goal.invariant-loop-place
invariant-loop-place l = record { callers : AreCallers l.ways l.place l.callers; returns : AreReturns l.ways l.place l.returns.items }
