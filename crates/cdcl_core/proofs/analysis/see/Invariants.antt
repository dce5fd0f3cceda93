use Rattle.std.proofs.Common.{take}
use Rattle.cdcl_core.specs.Analysed.{Sees}
use Rattle.cdcl_core.proofs.analysis.see.Given as goal

abbrev pub invariant-loop-code : goal.invariant-loop-code
invariant-loop-code l = Sees l.trail (take l.code-index l.clause) l.initial.seen l.seen
