use Rattle.std.proofs.Common.{nat_lt}
use Rattle.fingerprints.proofs.LaneLemmas.{chosen_at}
use Rattle.fingerprints.proofs.basic.if_below.Goals as goal

pub returns : goal.returns
returns c i h = chosen_at nat_lt c.args.test c.args.end c.args.a c.args.b c.fits-test.0 c.fits-a.0 c.fits-b.0 i h
