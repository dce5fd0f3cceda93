use Rattle.std.proofs.Common.{◌≤◌, ◌+◌, ◌++◌, drop, take}
use Rattle.step_ledger.specs.Counts.{RisesByAtLeast}
use Rattle.clause_model.specs.Clauses.{codes_of}
use Rattle.lrat_check.specs.Proofs.{additions, EachIsNew}
use Rattle.lrat_check.specs.ProofCosts.{newness_cost}
use Rattle.lrat_check.specs.Lists.{Holds}
use Rattle.lrat_check.specs.Runs.{contents_of}
use Rattle.lrat_check.proofs.Newness.{NewRest}
use Rattle.lrat_check.proofs.logs.are_new.Given as goal

abbrev pub invariant-loop-line : goal.invariant-loop-line
invariant-loop-line g l =
    let before = codes_of l.formula.clauses ++ additions (take l.line-index (contents_of l.log)) in
    let left = additions (drop l.line-index (contents_of l.log)) in
    record {
      held : Holds l.clauses before;
      rest : NewRest before left (EachIsNew (codes_of l.formula.clauses) (additions (contents_of l.log)));
      cost : l.steps + newness_cost before left ≤ l.initial.steps + newness_cost (codes_of l.formula.clauses) (additions (contents_of l.log));
      rises : RisesByAtLeast l.initial.steps l.steps 0;
    }
