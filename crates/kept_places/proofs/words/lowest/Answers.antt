use Rattle.std.specs.Int.{w64}
use Rattle.std.proofs.lemmas.Nat.Bits.{bit_at-trailing_zeros}
use Rattle.kept_places.proofs.words.lowest.Goals as goal

pub returns-clause-within : goal.returns-clause-within
returns-clause-within c = (bit_at-trailing_zeros w64 c.args.word c.requires c.ranges.word.fits).0

pub returns-clause-here : goal.returns-clause-here
returns-clause-here c = (bit_at-trailing_zeros w64 c.args.word c.requires c.ranges.word.fits).1

pub returns-clause-lowest : goal.returns-clause-lowest
returns-clause-lowest c = (bit_at-trailing_zeros w64 c.args.word c.requires c.ranges.word.fits).2
