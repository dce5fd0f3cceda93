use Rattle.std.proofs.Common.{◌≡◌, take}
use Rattle.bit_blast.specs.Slots.{instance}
use Rattle.table_audit.proofs.families.raised_side.Given as goal

abbrev pub invariant-loop-instr : goal.invariant-loop-instr
invariant-loop-instr l = l.raised ≡ instance l.number (take l.instr-index l.side) l.value
