use Rattle.std.proofs.Common.{◌≤◌, ◌+◌, take}
use Rattle.std.specs.Prelude.{All, Contains}
use Rattle.step_ledger.specs.Counts.{RisesByAtLeast}
use Rattle.lrat_check.proofs.clause.are_members.Given as goal

abbrev pub invariant-loop-literal : goal.invariant-loop-literal
invariant-loop-literal g l = record {
  part : All (Contains l.members) (take l.literal-index l.literals);
  cost : l.steps ≤ l.initial.steps + l.literal-index;
  rises : RisesByAtLeast l.initial.steps l.steps 0;
}
