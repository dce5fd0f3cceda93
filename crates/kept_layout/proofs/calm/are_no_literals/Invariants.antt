use Rattle.std.proofs.Common.{◌≡◌, ◌<◌, ℕ, Some, false}
use Rattle.std.specs.Prelude.{slice_get}
use Rattle.kept_layout.specs.declared.block.Block.{Block}
use Rattle.kept_layout.specs.Blocks.{begins_literal}
use Rattle.kept_layout.proofs.calm.are_no_literals.Given as goal

abbrev pub invariant-loop-number : goal.invariant-loop-number
invariant-loop-number l = (i j : ℕ) (s : Block) → i < l.number-index → slice_get l.numbers i ≡ Some j → slice_get l.blocks j ≡ Some s → begins_literal s.head ≡ false
