use Rattle.std.proofs.Common.{slice_index, ◌∙◌}
use Rattle.std.proofs.lemmas.Nat.{and_mask}
use Rattle.fingerprints.proofs.LaneLemmas.{zip2_same_at}
use Rattle.fingerprints.proofs.basic.low_five.Goals as goal

pub returns : goal.returns
returns c i h = zip2_same_at _ c.args.a 31 c.fits-a.0 i h ∙ and_mask (slice_index c.args.a i) 5
