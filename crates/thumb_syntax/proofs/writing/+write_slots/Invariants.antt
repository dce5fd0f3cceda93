use Rattle.std.proofs.Common.{length}
use Rattle.thumb_syntax.proofs.writing.+write_slots.Given as goal

abbrev pub decreases-write_slots : goal.decreases-write_slots
decreases-write_slots l = length l.slots.now
