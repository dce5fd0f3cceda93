use Rattle.thumb_assembler.proofs.Codes.{eight_bits}
use Rattle.thumb_assembler.proofs.laws.sizes_are_widths.Goals as goal

pub returns : goal.returns
returns c = eight_bits
