use Rattle.lrat_check.proofs.ClauseMembers.{members_unset}
use Rattle.lrat_check.proofs.kept_clauses.take_members.Goals as goal

pub set-requires : goal.set-requires
set-requires c = rw c.loop-literal.invariant (members_unset _ _ _ c.loop-literal-test.true c.literal-item.is c.requires.distinct)
