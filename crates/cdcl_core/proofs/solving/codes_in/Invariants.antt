use Rattle.std.proofs.Common.{◌≡◌, take}
use Rattle.cdcl_core.proofs.solving.codes_in.Given as goal

abbrev pub invariant-loop-literal : goal.invariant-loop-literal
invariant-loop-literal l = l.found.items ≡ take l.literal-index l.line.literals.items
