use Rattle.std.proofs.Common.{length}
use Rattle.thumb_syntax.proofs.writing.+write_members.Given as goal

abbrev pub decreases-write_members : goal.decreases-write_members
decreases-write_members l = length l.bits.now
