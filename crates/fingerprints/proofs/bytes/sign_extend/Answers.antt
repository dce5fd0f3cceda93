use Rattle.std.proofs.Common.{slice_index}
use Rattle.fingerprints.proofs.ByteLemmas.{sign_in_lane}
use Rattle.fingerprints.proofs.bytes.sign_extend.Goals as goal

pub returns : goal.returns
returns c i h =
    rw (c.taken.ensures i h, c.left.ensures i h, c.right.ensures i h)
    (sign_in_lane (slice_index c.args.x i) c.args.bits (slice_index c.zero_extend-low.result i) c.requires.some c.requires.within (c.zero_extend-low.ensures i h))
