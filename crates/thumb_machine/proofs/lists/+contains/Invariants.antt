use Rattle.std.proofs.Common.{length}
use Rattle.thumb_machine.proofs.lists.+contains.Given as goal

abbrev pub decreases-contains : goal.decreases-contains
decreases-contains l = length l.list.now
