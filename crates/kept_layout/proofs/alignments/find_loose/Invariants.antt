use Rattle.kept_layout.proofs.BuildingAlignments.{AreFound}
use Rattle.kept_layout.proofs.alignments.find_loose.Given as goal

abbrev pub invariant-loop-number : goal.invariant-loop-number
invariant-loop-number l = AreFound l.of l.blocks l.number l.loose.items
