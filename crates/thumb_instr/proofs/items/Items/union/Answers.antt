use Rattle.thumb_instr.proofs.Bits.{has_union, union_small}
use Rattle.thumb_instr.proofs.items.Items.union.Goals as goal

pub invariant_of-result : goal.invariant_of-result
invariant_of-result c = record { is_small = union_small c.args.self.bits c.args.other.bits c.args.self.is_small c.args.other.is_small }

pub returns : goal.returns
returns c = has_union c.args.self.bits c.args.other.bits
