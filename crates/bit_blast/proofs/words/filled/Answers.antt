use Rattle.std.proofs.Common.{rules}
use Rattle.bit_blast.specs.Words.{filled}
use Rattle.bit_blast.proofs.words.filled.Goals as goal

pub returns : goal.returns
unfolding filled
returns c = search rules
