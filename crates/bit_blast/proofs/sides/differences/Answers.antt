use Rattle.std.proofs.Common.{rules}
use Rattle.bit_blast.proofs.Inputs.{all_gathered}
use Rattle.bit_blast.proofs.sides.differences.Goals as goal

pub returns : goal.returns
returns c =
    all_gathered c.args.mask.items.bits c.args.x.now c.args.y.now c.args.builder.now c.register_differences.new.builder c.push_flag.new.builder c.push_flag-2.new.builder c.push_flag-3.new.builder c.push_flag-4.new.builder
    c.in_ok-found.found.items c.push_flag.new.found.items c.push_flag-2.new.found.items c.push_flag-3.new.found.items c.push_flag-4.new.found.items
    c.in_ok-found.ensures (search rules) (search rules) (search rules) (search rules)
