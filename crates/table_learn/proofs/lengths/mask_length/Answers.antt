use Rattle.std.proofs.Common.{arith}
use Rattle.table_learn.proofs.TextLengths.{mask_line}
use Rattle.table_learn.proofs.lengths.mask_length.Goals as goal

pub returns-clause-value : goal.returns-clause-value
returns-clause-value c =
    let m = mask_line c.args.mask.items.bits in
    omega (arith, m, c.item_length.ensures.value, c.item_length-2.ensures.value, c.item_length-3.ensures.value, c.item_length-4.ensures.value, c.item_length-5.ensures.value, c.item_length-6.ensures.value, c.item_length-7.ensures.value, c.item_length-8.ensures.value)
