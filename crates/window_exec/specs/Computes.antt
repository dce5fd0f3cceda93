-- Which instructions look at the registers that they name and at flags alone, and go on.
use Rattle.std.specs.Prelude.{Bool, true, false}
use Rattle.thumb_instr.specs.declared.instr.Instr.{Instr}
use Rattle.thumb_instr.specs.declared.instr.Instr.TheVariants.{Mov, Three, Two, Movs, ShiftLeft, ShiftRight, ThreeNumber, TwoNumber, Add, Compare, Extend, Reverse}

abbrev pub computes : Instr → Bool
computes (Mov d m) = true
computes (Three s d n m) = true
computes (Two o d m) = true
computes (Movs d m) = true
computes (ShiftLeft d m i) = true
computes (ShiftRight s d m i) = true
computes (ThreeNumber s d n i) = true
computes (TwoNumber o d i) = true
computes (Add r) = true
computes (Compare r) = true
computes (Extend e d m) = true
computes (Reverse r d m) = true
computes i = false
