use Rattle.std.proofs.Common.{◌≡◌, take}
use Rattle.window_rewrite.proofs.scratch.with_scratch.Given as goal

abbrev pub invariant-loop-register : goal.invariant-loop-register
invariant-loop-register l = l.registers.items ≡ take l.register-index l.own
