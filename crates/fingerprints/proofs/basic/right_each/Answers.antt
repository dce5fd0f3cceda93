use Rattle.std.proofs.Common.{arith, sym, ◌∙◌}
use Rattle.fingerprints.proofs.LaneLemmas.{Each2_lanes}
use Rattle.fingerprints.proofs.basic.right_each.Goals as goal

pub overflow_shr-result : goal.overflow_shr-result
overflow_shr-result c = Each2_lanes _ c.args.a c.args.n (c.fits-a.0 ∙ sym c.fits-n.0) (λ i h. c.requires i (omega (arith, c.fits-a.0)))
