use Rattle.std.proofs.Common.{length}
use Rattle.liveness.proofs.kept.+set_before.Given as goal

abbrev pub decreases-set_before : goal.decreases-set_before
decreases-set_before l = length l.instrs.now
