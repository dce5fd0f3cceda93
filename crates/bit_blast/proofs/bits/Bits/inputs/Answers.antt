use Rattle.std.proofs.Common.{◌∙◌}
use Rattle.bit_blast.proofs.Inputs.{inputs_built, inputs_words}
use Rattle.bit_blast.proofs.bits.Bits.inputs.Goals as goal

pub loop-i-preserved : goal.loop-i-preserved
loop-i-preserved c = record {
  built = inputs_built c.loop-i.builder c.input_bits.new.builder c.loop-i.i c.loop-i.invariant.built c.in_ok-input_bits.ensures.0;
  words = c.in_ok-push.ensures.items ∙ inputs_words c.loop-i.builder c.loop-i.i c.loop-i.registers.items c.in_ok-input_bits.field-0 c.loop-i.invariant.built c.loop-i.invariant.words c.in_ok-input_bits.ensures.1;
}
