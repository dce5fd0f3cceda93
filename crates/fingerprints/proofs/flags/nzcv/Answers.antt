use Rattle.std.proofs.Common.{slice_index}
use Rattle.fingerprints.proofs.LaneLemmas.{lane_below}
use Rattle.fingerprints.proofs.FlagLemmas.{nzcv_in_lane}
use Rattle.fingerprints.proofs.flags.nzcv.Goals as goal

pub returns : goal.returns
returns c i h =
    rw (c.added-2.ensures i h, c.added-high.ensures i h, c.left.ensures i h, c.right.ensures i h, c.if_zero.ensures i h, c.same.ensures i h, c.same-2.ensures i h, c.added.ensures i h, c.left-2.ensures i h, c.right-2.ensures i h, c.right-3.ensures i h)
    (nzcv_in_lane (slice_index c.args.n i) (slice_index c.args.z i) (slice_index c.args.c i) (slice_index c.args.v i)
    (lane_below c.args.n c.fits-n.0 c.fits-n.1 i h) (lane_below c.args.c c.fits-c.0 c.fits-c.1 i h) (lane_below c.args.v c.fits-v.0 c.fits-v.1 i h))
