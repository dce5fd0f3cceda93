use Rattle.std.proofs.Common.{◌≡◌, map}
use Rattle.kept_layout.specs.declared.block.Block.{Block}
use Rattle.kept_layout.specs.Blocks.{footprints_of}
use Rattle.kept_layout.specs.Cutting.{KnowCallers, AreCallers}
use Rattle.kept_layout.proofs.building.note_callers.Given as goal

abbrev pub invariant-loop-number : goal.invariant-loop-number
invariant-loop-number l = record {
  footprints : footprints_of l.blocks.items ≡ footprints_of l.fn.blocks.items;
  starts : map (λ (s : Block). s.at) l.blocks.items ≡ map (λ (s : Block). s.at) l.fn.blocks.items;
  known : KnowCallers l.number l.blocks.items;
  callers : AreCallers l.blocks.items;
}
