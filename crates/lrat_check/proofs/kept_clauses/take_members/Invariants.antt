use Rattle.std.proofs.Common.{◌≡◌, take}
use Rattle.lrat_check.proofs.kept_clauses.take_members.Given as goal

abbrev pub invariant-loop-literal : goal.invariant-loop-literal
invariant-loop-literal l = l.members ≡ take l.literal-index l.clause
