-- An instruction that may stand in a window is one that computes.
use Rattle.std.proofs.Common.{◌≡◌, true, refl}
use Rattle.thumb_instr.specs.declared.instr.Instr.{Instr}
use Rattle.thumb_instr.specs.declared.instr.Instr.TheVariants as instr
use Rattle.thumb_instr.specs.Window.{is_in_window}
use Rattle.window_exec.specs.Computes.{computes}

pub window_computes : (i : Instr) → is_in_window i ≡ true → computes i ≡ true
window_computes (instr.Mov d m) e = refl
window_computes i e = cc
