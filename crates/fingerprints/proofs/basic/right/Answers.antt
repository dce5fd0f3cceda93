use Rattle.fingerprints.proofs.LaneLemmas.{zip2_same_at}
use Rattle.fingerprints.proofs.basic.right.Goals as goal

pub returns : goal.returns
returns c i h = zip2_same_at _ c.args.a c.args.n c.fits-a.0 i h
