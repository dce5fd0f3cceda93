use Rattle.std.proofs.Common.{refl}
use Rattle.cdcl_core.proofs.Sparing.{marking_none, marking_skip, marking_more}
use Rattle.cdcl_core.proofs.dropping.mark_reasons.Goals as goal
use Rattle.cdcl_core.proofs.dropping.mark_reasons.Goals.{in-Some, in-None}

pub loop-reason-init : goal.loop-reason-init
loop-reason-init c = marking_none c.args.refs.now c.args.reasons.now c.in_ok-marks.marks.items (c.in_ok-marks.ensures.items_if_clones_equal (λ y e. e))

pub loop-reason-preserved : goal.loop-reason-preserved
loop-reason-preserved c =
    elim c.match-reason.branch [
      | in-Some w ↦
          rw w.marks-is
          (marking_more c.args.refs.now c.args.reasons.now c.loop-reason.marks.items c.loop-reason.reason-index c.loop-reason.invariant c.reason-item.result c.loop-reason-test.true c.reason-item.is w.in-Some.at w.in-Some.is w.place_of-place.result w.place_of-place.ensures _ refl)
      | in-None w ↦
          rw w.marks-is
          (marking_skip c.args.refs.now c.args.reasons.now c.loop-reason.marks.items c.loop-reason.reason-index c.loop-reason.invariant c.reason-item.result c.loop-reason-test.true c.reason-item.is w.in-None.is)
    ]
