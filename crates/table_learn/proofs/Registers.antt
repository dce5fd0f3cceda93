-- How many registers the sequences compared with a window may name: those that it names, and the scratch register if there is one, and at most four.
use Rattle.std.proofs.Common.{◌<◌, ◌≤◌, List, arith}
use Rattle.thumb_instr.specs.declared.instr.Instr.{Instr}
use Rattle.bit_blast.specs.Exactness.{IsMaskOver}
use Rattle.table_audit.specs.Shorter.{named_count, alphabet_registers, with_scratch}
use Rattle.table_audit.proofs.Appearing.{names_register}
use Rattle.table_audit.proofs.Fitting.{ordered_of}
use Rattle.table_learn.specs.Learnt.{Settings, Window}
use Rattle.table_learn.specs.Given.{IsWindow}
use Rattle.table_audit.proofs.Walking.{mask_more as mask_wider}

-- no fewer than the window names
pub more_registers : (s : Settings) (left : List Instr) → named_count left ≤ 4 → named_count left ≤ alphabet_registers s left
more_registers s left few = omega (arith, few)

pub few_registers : (s : Settings) (left : List Instr) → alphabet_registers s left ≤ 4
few_registers s left = omega arith

-- for a window at least one, and no more than for the widest window
pub some_registers : (s : Settings) (w : Window) → IsWindow s w → 0 < alphabet_registers s w.seq
some_registers s w i =
    let some : 0 < named_count w.seq = names_register w.seq i.canonical.renamable.some i.canonical.renamable.windows in
    omega (arith, some)

pub narrow_registers : (s : Settings) (w : Window) → IsWindow s w → alphabet_registers s w.seq ≤ with_scratch s s.regs
narrow_registers s w i = let few = i.few in omega (arith, few)

-- the mask has no other registers than these
pub mask_registers : (s : Settings) (w : Window) → IsWindow s w → IsMaskOver (alphabet_registers s w.seq) w.mask
mask_registers s w i = mask_wider (named_count w.seq) (alphabet_registers s w.seq) w.mask (more_registers s w.seq (ordered_of w.seq i.canonical).few) i.mask
