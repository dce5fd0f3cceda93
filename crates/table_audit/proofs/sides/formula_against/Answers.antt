use Rattle.std.proofs.Common.{arith}
use Rattle.rule_table.specs.Views.{header_in}
use Rattle.table_audit.specs.Shorter.{named_count}
use Rattle.table_audit.proofs.Walking.{mask_more, own_within}
use Rattle.table_audit.proofs.sides.formula_against.Goals as goal
use Rattle.rule_model.proofs.Table.{over_wider}

pub formula-requires-clause-left : goal.formula-requires-clause-left
formula-requires-clause-left c =
    let left = c.args.entry.now.left in
    let within = own_within (header_in c.args.table.now) left c.requires.entry.canonical in
    over_wider (named_count left) c.alphabet_registers-registers.result left (omega (arith, within, c.alphabet_registers-registers.ensures.value)) c.requires.entry.left

pub formula-requires-clause-mask : goal.formula-requires-clause-mask
formula-requires-clause-mask c =
    let left = c.args.entry.now.left in
    let within = own_within (header_in c.args.table.now) left c.requires.entry.canonical in
    mask_more (named_count left) c.alphabet_registers-registers.result c.args.entry.now.mask.items.bits (omega (arith, within, c.alphabet_registers-registers.ensures.value)) c.requires.entry.mask
