use Rattle.cdcl_core.proofs.Sparing.{Marking}
use Rattle.cdcl_core.proofs.dropping.mark_reasons.Given as goal

abbrev pub invariant-loop-reason : goal.invariant-loop-reason
invariant-loop-reason l = Marking l.refs l.reasons l.marks.items l.reason-index
