use Rattle.std.proofs.Common.{◌==◌}
use Rattle.fingerprints.proofs.LaneLemmas.{chosen_at}
use Rattle.fingerprints.proofs.basic.if_zero.Goals as goal

pub returns : goal.returns
returns c i h = chosen_at (λ x y. x == y) c.args.test 0 c.args.a c.args.b c.fits-test.0 c.fits-a.0 c.fits-b.0 i h
