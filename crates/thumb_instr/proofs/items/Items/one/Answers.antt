use Rattle.thumb_instr.proofs.Bits.{has_one, one_small}
use Rattle.thumb_instr.proofs.items.Items.one.Goals as goal

pub invariant_of-result : goal.invariant_of-result
invariant_of-result c = record { is_small = one_small c.args.item c.requires }

pub returns : goal.returns
returns c = λ x. has_one c.args.item x c.requires
