use Rattle.std.proofs.Common.{refl, slice_index}
use Rattle.fingerprints.proofs.LaneLemmas.{lane_below}
use Rattle.fingerprints.proofs.SumLemmas.{sum_in_lane}
use Rattle.fingerprints.proofs.sums.add_with_carry.Goals as goal

pub returns : goal.returns
returns c i h =
    rw (c.or-2.ensures i h, c.and.ensures i h, c.and-2.ensures i h, c.or.ensures i h, c.not.ensures i h, c.and-3.ensures i h, c.xor.ensures i h, c.xor-2.ensures i h)
    (sum_in_lane (slice_index c.args.x i) (slice_index c.args.y i) (slice_index c.args.c i)
    (lane_below c.args.x c.fits-x.0 c.fits-x.1 i h) (lane_below c.args.y c.fits-y.0 c.fits-y.1 i h) (lane_below c.args.c c.fits-c.0 c.fits-c.1 i h)
    (slice_index c.added-value.result i)
    (rw (c.added-value.ensures i h, c.added.ensures i h, c.right.ensures i h) refl))
