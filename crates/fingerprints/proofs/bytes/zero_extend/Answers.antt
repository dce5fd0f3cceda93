use Rattle.std.proofs.Common.{slice_index}
use Rattle.fingerprints.proofs.ByteLemmas.{zero_in_lane}
use Rattle.fingerprints.proofs.bytes.zero_extend.Goals as goal

pub returns : goal.returns
returns c i h = rw (c.right.ensures i h, c.left.ensures i h) (zero_in_lane (slice_index c.args.x i) c.args.bits c.requires.within)
