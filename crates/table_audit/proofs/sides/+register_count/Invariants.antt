use Rattle.std.proofs.Common.{length}
use Rattle.table_audit.proofs.sides.+register_count.Given as goal

abbrev pub decreases-register_count : goal.decreases-register_count
decreases-register_count l = length l.instrs.now
