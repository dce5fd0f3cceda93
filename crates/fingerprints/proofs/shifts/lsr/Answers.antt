use Rattle.std.proofs.Common.{false, slice_index}
use Rattle.fingerprints.proofs.ShiftLemmas.{lsr_in_lane}
use Rattle.fingerprints.proofs.shifts.lsr.Goals as goal

pub returns : goal.returns
returns c i h =
    rw (c.right.ensures i h, c.left.ensures i h, c.right-out.ensures i h) (lsr_in_lane (slice_index c.args.x i) c.args.n false c.requires.some)
