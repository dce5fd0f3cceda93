use Rattle.kept_layout.proofs.BuildingAlignments.{HaveAlignments}
use Rattle.kept_layout.proofs.alignments.note_alignments.Given as goal

abbrev pub invariant-loop-number : goal.invariant-loop-number
invariant-loop-number l = HaveAlignments l.fn.blocks.items l.last l.alignment l.number l.blocks.items

abbrev pub decreases-loop-number : goal.decreases-loop-number
decreases-loop-number l = l.number
