use Rattle.std.proofs.Common.{take}
use Rattle.cdcl_core.proofs.Conflicts.{Turned}
use Rattle.cdcl_core.proofs.analysis.contraries.Given as goal

abbrev pub invariant-loop-literal : goal.invariant-loop-literal
invariant-loop-literal l = Turned l.seen (take l.literal-index l.part) l.part l.found.items
