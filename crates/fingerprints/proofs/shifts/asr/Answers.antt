use Rattle.std.proofs.Common.{false, slice_index}
use Rattle.fingerprints.proofs.LaneLemmas.{lane_below}
use Rattle.fingerprints.proofs.ShiftLemmas.{asr_in_lane}
use Rattle.fingerprints.proofs.shifts.asr.Goals as goal

pub returns : goal.returns
returns c i h =
    rw (c.xor-2.ensures i h, c.left.ensures i h, c.xor-3.ensures i h, c.right-2.ensures i h, c.right-out.ensures i h, c.xor.ensures i h, c.taken-fill.ensures i h, c.same.ensures i h, c.right.ensures i h)
    (asr_in_lane (slice_index c.args.x i) c.args.n false (lane_below c.args.x c.fits-x.0 c.fits-x.1 i h) c.requires.some)
