use Rattle.std.proofs.Common.{length, ◌≤◌}
use Rattle.std.proofs.lemmas.List.{take_all}
use Rattle.clause_model.proofs.Scans.{never}
use Rattle.cdcl_core.proofs.Conflicts.{turned_none, turned_skip, turned_more}
use Rattle.cdcl_core.proofs.analysis.contraries.Goals as goal
use Rattle.cdcl_core.proofs.analysis.contraries.Goals.{then-is_true+in_ok-push, else-is_true}

pub loop-literal-init : goal.loop-literal-init
loop-literal-init c = turned_none _ _ _ c.new-found.ensures.items

pub loop-literal-preserved : goal.loop-literal-preserved
loop-literal-preserved c =
    elim c.if-is_true.branch [
      | then-is_true+in_ok-push w ↦ rw w.found-is
          (turned_more _ _ _ _ _ _ _ c.loop-literal-test.true c.literal-item.is w.negated.ensures w.in_ok-push.ensures.items c.loop-literal.invariant)
      | else-is_true w ↦ rw w.found-is
          (turned_skip _ _ _ _ _ c.loop-literal-test.true c.literal-item.is (λ p. never w.if-is_true.ensures.1 p) c.loop-literal.invariant)
    ]

pub returns-clause-all : goal.returns-clause-all
returns-clause-all c = let b : length c.args.part.now ≤ c.loop-literal.literal-index = c.loop-literal-test.false in rw take_all at c.loop-literal.invariant.all

pub returns-clause-only : goal.returns-clause-only
returns-clause-only c = c.loop-literal.invariant.only
