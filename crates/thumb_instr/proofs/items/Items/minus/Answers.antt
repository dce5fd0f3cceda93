use Rattle.thumb_instr.proofs.Bits.{has_minus, minus_small}
use Rattle.thumb_instr.proofs.items.Items.minus.Goals as goal

pub invariant_of-result : goal.invariant_of-result
invariant_of-result c = record { is_small = minus_small c.args.self.bits c.args.other.bits c.args.self.is_small }

pub returns : goal.returns
returns c = has_minus c.args.self.bits c.args.other.bits
