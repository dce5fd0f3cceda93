use Rattle.std.proofs.Common.{refl, take}
use Rattle.clause_model.proofs.Scans.{never}
use Rattle.cdcl_core.proofs.Assumptions.{assumed_none, assumed_already, assumed_more, opposite_unset, part_in}
use Rattle.cdcl_core.proofs.assumption.assume.Goals as goal
use Rattle.cdcl_core.proofs.assumption.assume.Goals.{then-not-is_true+in_ok-set+in_ok-push, else-not-is_true}

pub loop-literal-init : goal.loop-literal-init
loop-literal-init c = assumed_none _ _

pub set-requires : goal.set-requires
set-requires c = opposite_unset _ _ _ c.negated-opposite.ensures (λ p. never c.if-is_true.ensures.1 p) (λ p. never c.if-not-is_true.ensures.1 p)

pub loop-literal-preserved : goal.loop-literal-preserved
loop-literal-preserved c =
    elim c.if-not-is_true.branch [
      | then-not-is_true+in_ok-set+in_ok-push w ↦
          rw (w.trail-is, w.reasons-is)
          (assumed_more _ _ _ _ c.loop-literal-test.true c.literal-item.is c.negated-opposite.ensures _ _ _ _ c.loop-literal.invariant _ _ w.in_ok-push.ensures.items w.in_ok-set.ensures.ok)
      | else-not-is_true w ↦
          rw (w.trail-is, w.reasons-is)
          (assumed_already _ _ _ _ c.loop-literal-test.true c.literal-item.is c.negated-opposite.ensures _ _ _ _ c.loop-literal.invariant (w.if-not-is_true.ensures.0 refl))
    ]

pub returns-then-is_true-clause-tried : goal.returns-then-is_true-clause-tried
returns-then-is_true-clause-tried c = (take c.loop-literal.literal-index c.args.literals.now, part_in c.loop-literal.literal-index c.args.literals.now, c.loop-literal.invariant)

pub returns-clause-tried : goal.returns-clause-tried
returns-clause-tried c = (take c.loop-literal.literal-index c.args.literals.now, part_in c.loop-literal.literal-index c.args.literals.now, c.loop-literal.invariant)
