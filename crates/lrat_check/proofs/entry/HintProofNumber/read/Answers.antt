use Rattle.std.proofs.Common.{ℤ}
use Rattle.lrat_check.specs.Numbers.{IsHint}
use Rattle.lrat_check.proofs.Numerals.{reads, reads_none, hint_fits}
use Rattle.lrat_check.proofs.entry.HintProofNumber.read.Goals as goal

pub returns-in-None : goal.returns-in-None
returns-in-None c = reads_none IsHint (λ (z : ℤ). z) hint_fits c.args.word.now c.in-None.ensures

pub returns-in-Some : goal.returns-in-Some
returns-in-Some c = reads IsHint (λ (z : ℤ). z) hint_fits c.args.word.now c.in-Some.number c.from_number.result c.in-Some.ensures c.from_number.ensures
