-- Which instructions look at registers and flags alone, and go on: those of windows, and the two that compute with sp.
use Rattle.std.specs.Prelude.{Bool, true}
use Rattle.thumb_instr.specs.declared.instr.Instr.{Instr}
use Rattle.thumb_instr.specs.declared.instr.Instr.TheVariants.{StackAddress, StackMove}
use Rattle.window_exec.specs.Computes.{computes as names_alone}

-- those that look at the registers that they name and at flags alone, and those that look at sp
abbrev pub computes : Instr → Bool
computes (StackAddress d i) = true
computes (StackMove s i) = true
computes i = names_alone i
