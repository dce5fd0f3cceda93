use Rattle.std.proofs.Common.{◌≤◌, ◌+◌, take, length}
use Rattle.std.specs.Prelude.{All, sum_by}
use Rattle.step_ledger.specs.Counts.{RisesByAtLeast}
use Rattle.clause_model.specs.Clauses.{IsNew}
use Rattle.lrat_check.specs.Lists.{listed, under}
use Rattle.lrat_check.proofs.lists.is_new_among.Given as goal

abbrev pub invariant-loop-literal : goal.invariant-loop-literal
invariant-loop-literal g l = record {
  new : All (λ m. IsNew (under (listed l.lists) m) l.members) (take l.literal-index l.literals);
  cost : l.steps ≤ l.initial.steps + sum_by (λ m. sum_by length (under (listed l.lists) m)) (take l.literal-index l.literals);
  rises : RisesByAtLeast l.initial.steps l.steps 0;
}
