use Rattle.std.proofs.Common.{slice_index}
use Rattle.fingerprints.proofs.FlagLemmas.{cleared_in_lane}
use Rattle.fingerprints.proofs.flags.cleared.Goals as goal

pub returns : goal.returns
returns c i h = rw (c.added.ensures i h, c.right.ensures i h, c.left.ensures i h, c.same.ensures i h) (cleared_in_lane (slice_index c.args.nzcv i) c.args.bit c.requires)
