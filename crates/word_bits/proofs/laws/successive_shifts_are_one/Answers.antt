use Rattle.word_bits.proofs.Successive.{shift_of-shift_of}
use Rattle.word_bits.proofs.laws.successive_shifts_are_one.Goals as goal

pub returns : goal.returns
returns c = shift_of-shift_of
