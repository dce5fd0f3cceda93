use Rattle.std.proofs.Common.{slice_index}
use Rattle.fingerprints.proofs.ByteLemmas.{byte_in_lane}
use Rattle.fingerprints.proofs.bytes.moved_byte.Goals as goal

pub returns : goal.returns
returns c i h =
    rw (c.left-2.ensures i h, c.right.ensures i h, c.left.ensures i h) (byte_in_lane (slice_index c.args.x i) c.args.from c.args.to c.requires.from c.requires.to)
