use Rattle.std.proofs.Common.{length}
use Rattle.thumb_syntax.proofs.fields.+filled_from.Given as goal

abbrev pub decreases-filled_from : goal.decreases-filled_from
decreases-filled_from l = length l.slots.now
