use Rattle.std.proofs.Common.{◌+◌, arith, length, sym}
use Rattle.std.proofs.lemmas.List.Sums.{sum_by-take-le}
use Rattle.step_ledger.proofs.Rises.{at_least-goes_on}
use Rattle.lrat_check.proofs.ClauseMembers.{says_no, says_yes, denied, lengths_next, new_more, new_all, part_found}
use Rattle.lrat_check.proofs.clause.is_none_part.Goals as goal

pub returns-then-is_part-clause-new : goal.returns-then-is_part-clause-new
returns-then-is_part-clause-new g c =
    says_no _ (part_found c.args.clauses.now c.args.members.now c.clause-item.result c.loop-clause.clause-index c.loop-clause-test.true (sym c.clause-item.is) (c.is_part.ensures.part.0 c.if-is_part.true))

pub returns-then-is_part-clause-cost : goal.returns-then-is_part-clause-cost
returns-then-is_part-clause-cost g c =
    let next = lengths_next c.args.clauses.now c.loop-clause.steps c.is_part.new.steps c.args.steps.now c.loop-clause.clause-index c.clause-item.result c.loop-clause-test.true (sym c.clause-item.is) c.loop-clause.invariant.cost c.is_part.ensures.cost in
    omega (arith, next, sum_by-take-le length c.args.clauses.now (c.loop-clause.clause-index + 1))

pub loop-clause-preserved : goal.loop-clause-preserved
loop-clause-preserved g c = record {
  new = new_more c.args.clauses.now c.args.members.now c.clause-item.result c.loop-clause.clause-index c.loop-clause-test.true (sym c.clause-item.is) c.loop-clause.invariant.new (denied _ c.if-is_part.ensures.part);
  cost = lengths_next c.args.clauses.now c.loop-clause.steps c.is_part.new.steps c.args.steps.now c.loop-clause.clause-index c.clause-item.result c.loop-clause-test.true (sym c.clause-item.is) c.loop-clause.invariant.cost c.is_part.ensures.cost;
  rises = at_least-goes_on _ _ _ 0 0 c.loop-clause.invariant.rises c.is_part.ensures.rises;
}

pub returns-clause-new : goal.returns-clause-new
returns-clause-new g c = says_yes _ (new_all c.args.clauses.now c.args.members.now c.loop-clause.clause-index c.loop-clause-test.false c.loop-clause.invariant.new)
