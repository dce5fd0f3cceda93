use Rattle.std.proofs.Common.{◌≡◌, map, take}
use Rattle.window_rewrite.specs.Hashes.{blind}
use Rattle.window_rewrite.proofs.hashes.blind_all.Given as goal

abbrev pub invariant-loop-instr : goal.invariant-loop-instr
invariant-loop-instr l = l.seq ≡ map blind (take l.instr-index l.instrs)
