use Rattle.std.proofs.Common.{◌≡◌, ℕ, drop, map}
use Rattle.std.specs.Prelude.{◌||◌}
use Rattle.thumb_instr.specs.Items.{has, one_of}
use Rattle.rule_table.specs.Fronts.{taken}
use Rattle.rule_table.specs.MaskView.{row_of}
use Rattle.rule_table.proofs.tails.taken.Given as goal

abbrev pub invariant-loop-row : goal.invariant-loop-row
invariant-loop-row l = record {
  items : (x : ℕ) → (has l.items.bits x || one_of x (taken (map row_of (drop l.row-index l.list)) l.rest).0) ≡ one_of x (taken (map row_of l.list) l.bytes).0;
  left : (taken (map row_of (drop l.row-index l.list)) l.rest).1 ≡ (taken (map row_of l.list) l.bytes).1;
}
