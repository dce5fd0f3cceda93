use Rattle.liveness.specs.Waiting.{WaitMore}
use Rattle.liveness.proofs.Jumps.{AreTold}
use Rattle.liveness.proofs.settling.tell_callers.Given as goal

abbrev pub invariant-loop-rest : goal.invariant-loop-rest
invariant-loop-rest l = record {
  more : WaitMore l.fn.waiting l.waiting;
  told : AreTold l._ways l.callers.jumps.items l.place l.rest l.waiting.marks.items;
}

abbrev pub decreases-loop-rest : goal.decreases-loop-rest
decreases-loop-rest l = l.rest
