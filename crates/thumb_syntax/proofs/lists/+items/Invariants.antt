use Rattle.std.proofs.Common.{length}
use Rattle.thumb_syntax.specs.LeftView.{left}
use Rattle.thumb_syntax.proofs.lists.+items.Given as goal

abbrev pub decreases-items : goal.decreases-items
decreases-items l = length (left l.operands)
