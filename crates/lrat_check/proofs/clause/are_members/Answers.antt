use Rattle.std.proofs.Common.{arith}
use Rattle.step_ledger.proofs.Rises.{at_least-goes_on, at_least-fewer, at_least-ticks}
use Rattle.lrat_check.proofs.ClauseMembers.{says_no, says_yes, denied, part_missing, part_more, part_all}
use Rattle.lrat_check.proofs.clause.are_members.Goals as goal

pub returns-then-not-is_true-clause-part : goal.returns-then-not-is_true-clause-part
returns-then-not-is_true-clause-part g c =
    says_no _ (part_missing c.args.members.now c.args.literals.now c.loop-literal.literal-index c.literal-item.result c.loop-literal-test.true c.literal-item.is (denied _ c.if-not-is_true.ensures))

pub loop-literal-preserved : goal.loop-literal-preserved
loop-literal-preserved g c = record {
  part = part_more c.args.members.now c.args.literals.now c.loop-literal.literal-index c.literal-item.result c.loop-literal-test.true c.literal-item.is c.loop-literal.invariant.part (c.is_true.ensures.0 c.if-not-is_true.false);
  cost = omega (arith, c.tick.ensures, c.loop-literal.invariant.cost);
  rises = at_least-goes_on _ _ _ 0 0 c.loop-literal.invariant.rises (at_least-fewer _ _ 1 0 (omega arith) (at_least-ticks _ _ c.tick.ensures));
}

pub returns-clause-part : goal.returns-clause-part
returns-clause-part g c = says_yes _ (part_all c.args.members.now c.args.literals.now c.loop-literal.literal-index c.loop-literal-test.false c.loop-literal.invariant.part)
