use Rattle.std.proofs.Common.{◌≡◌, take}
use Rattle.thumb_instr.proofs.seq.Seq.from_slice.Given as goal

abbrev pub invariant-loop-instr : goal.invariant-loop-instr
invariant-loop-instr l = l.seq.items ≡ take l.instr-index l.instrs
