use Rattle.std.proofs.Common.{false, slice_index}
use Rattle.fingerprints.proofs.ShiftLemmas.{lsl_in_lane}
use Rattle.fingerprints.proofs.shifts.lsl.Goals as goal

pub returns : goal.returns
returns c i h =
    rw (c.left.ensures i h, c.left-c.ensures i h) (lsl_in_lane (slice_index c.args.x i) c.args.n false c.requires.some c.requires.most)
