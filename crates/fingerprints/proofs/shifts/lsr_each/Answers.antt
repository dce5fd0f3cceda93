use Rattle.std.proofs.Common.{slice_index, ◌∙◌}
use Rattle.fingerprints.specs.WordLanes.{set_at}
use Rattle.fingerprints.proofs.LaneLemmas.{lane_below}
use Rattle.fingerprints.proofs.ShiftLemmas.{lsr_each_in_lane}
use Rattle.fingerprints.proofs.shifts.lsr_each.Goals as goal

pub returns : goal.returns
returns c i h =
    c.kept_at_zero.ensures i h
    ∙ rw (c.right.ensures i h, c.left.ensures i h, c.if_below-out.ensures i h, c.right_each.ensures i h, c.low_five.ensures i h, c.same-2.ensures i h, c.taken-less.ensures i h, c.same.ensures i h)
    (lsr_each_in_lane (slice_index c.args.x i) (slice_index c.args.n i) (set_at c.args.c i) (lane_below c.args.x c.fits-x.0 c.fits-x.1 i h) (lane_below c.args.n c.fits-n.0 c.fits-n.1 i h))
