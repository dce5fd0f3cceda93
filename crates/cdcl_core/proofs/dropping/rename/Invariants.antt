use Rattle.cdcl_core.specs.Dropped.{IsRenamed}
use Rattle.cdcl_core.proofs.dropping.rename.Given as goal

abbrev pub invariant-loop-reason : goal.invariant-loop-reason
invariant-loop-reason l = IsRenamed l.kept l.moved l.reasons l.reason-index l.renamed.items
