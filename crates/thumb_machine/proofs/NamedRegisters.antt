-- An instruction that computes names only registers below 15, which the machine has.
use Rattle.std.proofs.Common.{◌≡◌, ◌<◌, true, arith}
use Rattle.thumb_instr.specs.declared.instr.Instr.{Instr}
use Rattle.thumb_instr.specs.declared.instr.Instr.TheVariants as instr
use Rattle.thumb_instr.specs.Window.{Low, Reg, named, AreBelow}
use Rattle.window_exec.specs.Computes.{computes}

low_there : (d : Low) → d.number < 15
low_there d = omega arith

reg_there : (d : Reg) → d.number < 15
reg_there d = d.below

pub named_there : (i : Instr) → computes i ≡ true → AreBelow 15 (named i)
named_there (instr.Mov d m) e = (d.below, (m.below, tt))
named_there i e = first_of (search (low_there, reg_there), grind arith)
