use Rattle.std.proofs.Common.{◌≡◌, ◌+◌, subst, IfOk}
use Rattle.bit_blast.proofs.Inputs.{whole_word}
use Rattle.bit_blast.proofs.bits.input_bits.Goals as goal

pub returns : goal.returns
returns c =
    subst (λ y. IfOk c.low_inputs.result (λ w. (c.low_inputs.new.builder ≡ record c.args.builder.now { variables = c.args.builder.now.variables + 32 }) × (w ≡ y))) (whole_word c.args.builder.now.variables) c.low_inputs.ensures
