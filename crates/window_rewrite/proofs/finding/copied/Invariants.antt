use Rattle.std.proofs.Common.{◌≡◌, take}
use Rattle.window_rewrite.proofs.finding.copied.Given as goal

abbrev pub invariant-loop-instr : goal.invariant-loop-instr
invariant-loop-instr l = l.seq ≡ take l.instr-index l.window
