-- What the registers and flags of a machine hold, item by item.
use Rattle.thumb_machine.specs.declared.registers.Registers.{Registers}
use Rattle.thumb_model.specs.Effect.{Values}
use Rattle.window_exec.specs.State.{values_by}

-- r0 to r12, sp and lr, and the flags
abbrev pub values_of : Registers → Values
values_of s = values_by s.r s.nzcv
