use Rattle.std.proofs.Common.{◌≤◌, ◌+◌, take, length}
use Rattle.std.specs.Prelude.{sum_by}
use Rattle.step_ledger.specs.Counts.{RisesByAtLeast}
use Rattle.clause_model.specs.Clauses.{IsNew}
use Rattle.lrat_check.proofs.clause.is_none_part.Given as goal

abbrev pub invariant-loop-clause : goal.invariant-loop-clause
invariant-loop-clause g l = record {
  new : IsNew (take l.clause-index l.clauses) l.members;
  cost : l.steps ≤ l.initial.steps + sum_by length (take l.clause-index l.clauses);
  rises : RisesByAtLeast l.initial.steps l.steps 0;
}
