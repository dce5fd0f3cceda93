use Rattle.std.proofs.Common.{◌≡◌, ℕ, ◌<◌, ◌≤◌, false}
use Rattle.thumb_instr.specs.Items.{has}
use Rattle.table_audit.proofs.sides.is_mask_over.Given as goal

abbrev pub invariant-loop-register : goal.invariant-loop-register
invariant-loop-register l = (x : ℕ) → l.k ≤ x → x < l.register → has l.mask.items.bits x ≡ false
