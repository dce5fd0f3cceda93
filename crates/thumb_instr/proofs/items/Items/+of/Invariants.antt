use Rattle.std.proofs.Common.{length}
use Rattle.thumb_instr.proofs.items.Items.+of.Given as goal

abbrev pub decreases-of : goal.decreases-of
decreases-of l = length l.list.now
