use Rattle.cdcl_core.proofs.Sparing.{renamed_none, renamed_some}
use Rattle.cdcl_core.proofs.dropping.rename.Goals as goal
use Rattle.cdcl_core.proofs.dropping.rename.Goals.{in-Some+in_ok-push-in-Some, in-None+in_ok-push-in-None}

pub loop-reason-preserved : goal.loop-reason-preserved
loop-reason-preserved c =
    elim c.match-reason.branch [
      | in-Some+in_ok-push-in-Some w ↦
          rw w.renamed-is
          (renamed_some c.args.kept.now c.args.moved.now c.args.reasons.now c.loop-reason.reason-index c.loop-reason.renamed.items c.loop-reason.invariant c.reason-item.result c.loop-reason-test.true c.reason-item.is w.in-Some.at w.in-Some.is w.moved_to.result w.moved_to.ensures w.push.new.self.items w.in_ok-push-in-Some.ensures.items)
      | in-None+in_ok-push-in-None w ↦
          rw w.renamed-is
          (renamed_none c.args.kept.now c.args.moved.now c.args.reasons.now c.loop-reason.reason-index c.loop-reason.renamed.items c.loop-reason.invariant c.reason-item.result c.loop-reason-test.true c.reason-item.is w.in-None.is w.push-in-None.new.self.items w.in_ok-push-in-None.ensures.items)
    ]
