use Rattle.std.proofs.Common.{slice_index}
use Rattle.fingerprints.proofs.FlagLemmas.{raised_in_lane}
use Rattle.fingerprints.proofs.flags.raised.Goals as goal

pub returns : goal.returns
returns c i h = rw (c.left.ensures i h) (raised_in_lane (slice_index c.args.nzcv i) c.args.bit c.requires)
