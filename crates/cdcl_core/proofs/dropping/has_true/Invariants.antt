use Rattle.std.proofs.Common.{take}
use Rattle.std.specs.Prelude.{Any, Contains}
use Rattle.cdcl_core.proofs.dropping.has_true.Given as goal

abbrev pub invariant-loop-literal : goal.invariant-loop-literal
invariant-loop-literal l = Any (Contains l.trail) (take l.literal-index l.literals) → ⊥
