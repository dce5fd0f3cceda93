use Rattle.std.proofs.Common.{◌≡◌, ◌++◌, drop, map}
use Rattle.bit_blast.specs.declared.slots.Slot.TheVariants.{Plain}
use Rattle.bit_blast.proofs.slots.plain.Given as goal

abbrev pub invariant-loop-instr : goal.invariant-loop-instr
invariant-loop-instr l = l.slots.items ++ map Plain (drop l.instr-index l.side) ≡ map Plain l.side
