use Rattle.std.proofs.Common.{arith}
use Rattle.rule_table.specs.declared.header.Field.TheVariants.{Regs, Left}
use Rattle.table_audit.proofs.widths.check_width.Goals as goal

pub width-width-requires-clause-some : goal.width-width-requires-clause-some
width-width-requires-clause-some c = omega (arith, (c.requires.header.numbers Regs).0, c.with_scratch-registers.ensures)

pub width-width-requires-clause-few : goal.width-width-requires-clause-few
width-width-requires-clause-few c = omega (arith, c.with_scratch-registers.ensures)

pub width-width-requires-clause-short : goal.width-width-requires-clause-short
width-width-requires-clause-short c = omega (arith, (c.requires.header.numbers Left).1)
