use Rattle.std.proofs.Common.{length}
use Rattle.thumb_machine.proofs.world.World.+read_many.Given as goal

abbrev pub decreases-read_many : goal.decreases-read_many
decreases-read_many l = length l.list.now
