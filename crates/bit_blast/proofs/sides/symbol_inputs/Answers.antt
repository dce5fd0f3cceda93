use Rattle.std.proofs.Common.{rules}
use Rattle.bit_blast.proofs.Families.{symbol_done}
use Rattle.bit_blast.proofs.sides.symbol_inputs.Goals as goal

pub returns : goal.returns
returns c =
    symbol_done c.args.k c.args.symbol c.in_ok-word.word c.inverted.result c.args.builder.now c.low_inputs.new.builder c.at_least.new.builder c.at_least-2.new.builder c.requires
    (search rules) (search rules) c.inverted.ensures (search rules) (search rules)
