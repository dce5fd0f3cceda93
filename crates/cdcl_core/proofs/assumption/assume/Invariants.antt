use Rattle.std.proofs.Common.{take}
use Rattle.cdcl_core.specs.Assumed.{IsAssumed}
use Rattle.cdcl_core.proofs.assumption.assume.Given as goal

abbrev pub invariant-loop-literal : goal.invariant-loop-literal
invariant-loop-literal l = IsAssumed (take l.literal-index l.literals) l.initial.reasons.items l.initial.trail l.reasons.items l.trail
