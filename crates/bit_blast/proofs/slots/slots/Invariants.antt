use Rattle.std.proofs.Common.{◌≡◌, ◌++◌, drop}
use Rattle.bit_blast.specs.Slots.{slots}
use Rattle.bit_blast.proofs.slots.slots.Given as goal

abbrev pub invariant-loop-instr : goal.invariant-loop-instr
invariant-loop-instr l = l.slots.items ++ slots l.number (drop l.instr-index l.side) ≡ slots l.number l.side
