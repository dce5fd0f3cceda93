use Rattle.thumb_instr.proofs.Bits.{masked, has_masked}
use Rattle.thumb_instr.proofs.items.Mask.of.Goals as goal

pub returns : goal.returns
returns c = has_masked c.args.items.bits

pub invariant_of-result-2 : goal.invariant_of-result-2
invariant_of-result-2 c = record { in_masks = masked c.args.items.bits }
