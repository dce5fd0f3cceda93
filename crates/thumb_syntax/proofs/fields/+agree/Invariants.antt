use Rattle.std.proofs.Common.{length}
use Rattle.thumb_syntax.proofs.fields.+agree.Given as goal

abbrev pub decreases-agree : goal.decreases-agree
decreases-agree l = length l.slots.now
