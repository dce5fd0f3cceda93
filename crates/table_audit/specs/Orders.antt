-- Whether the registers of a side are r0, r1 and so on by first appearance, as the code's loops test it.
use Rattle.std.specs.Prelude.{◌≡◌, ◌<◌, ◌≤◌, ℕ, true, List, Some, length, slice_get}
use Rattle.std.specs.List.{list_all}
use Rattle.thumb_instr.specs.declared.instr.Instr.{Instr}
use Rattle.thumb_instr.specs.Window.{is_in_window}
use Rattle.seq_enum.specs.Alphabet.{numbers_from, IsOver}
use Rattle.seq_enum.specs.Costs.{weight_under}
use Rattle.bit_blast.specs.Exactness.{IsMaskOver}
use Rattle.rule_table.specs.Canonical.{appearing}
use Rattle.rule_table.specs.Table.{Rule, Table}
use Rattle.table_audit.specs.Shorter.{named_count}

-- some register of the list doesn't stand at its own place
pub record IsAstray (registers : List ℕ) : Type 0 where
  pub place : ℕ
  pub register : ℕ
  pub stands : slice_get registers place ≡ Some register
  pub elsewhere : place ≡ register → ⊥

-- there are instructions, each may stand in a window, and their registers, at most four, are r0, r1 and so on by first appearance
pub record IsInOrder (side : List Instr) : Type 0 where
  pub some : 0 < length side
  pub windows : list_all is_in_window side ≡ true
  pub in_order : appearing side ≡ numbers_from 0 (named_count side)
  pub few : named_count side ≤ 4

-- left side and mask are over the registers below k, the right side over those below `registers`, and all are within the header's limits
pub record AreWithin (t : Table) (e : Rule) (k registers : ℕ) : Type 0 where
  pub short : length e.left ≤ t.header.left
  pub few : k ≤ t.header.regs
  pub left : IsOver k t.header.pool e.left
  pub right : IsOver registers t.header.pool e.right
  pub no_longer : length e.right ≤ length e.left
  pub no_dearer : weight_under t.header.costs e.right ≤ weight_under t.header.costs e.left
  pub mask : IsMaskOver k e.mask
