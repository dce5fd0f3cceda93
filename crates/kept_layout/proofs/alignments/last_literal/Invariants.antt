use Rattle.std.proofs.Common.{◌≡◌, ◌<◌, ◌≤◌, ℕ, Some}
use Rattle.std.specs.Prelude.{slice_get}
use Rattle.kept_layout.specs.declared.block.Block.{Block}
use Rattle.kept_layout.specs.Blocks.{literal_last}
use Rattle.kept_layout.proofs.alignments.last_literal.Given as goal

abbrev pub invariant-loop-number : goal.invariant-loop-number
invariant-loop-number l = (j : ℕ) (s : Block) → j < l.number → slice_get l.blocks j ≡ Some s → literal_last j s.head ≤ l.last
