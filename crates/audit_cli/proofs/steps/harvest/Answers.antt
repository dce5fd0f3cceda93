use Rattle.rule_table.specs.declared.header.Field.TheVariants.{Regs, Left}
use Rattle.audit_cli.proofs.steps.harvest.Goals as goal

pub windows-requires-clause-regs : goal.windows-requires-clause-regs
windows-requires-clause-regs g c = (c.requires.header.numbers Regs).1

pub windows-requires-clause-left : goal.windows-requires-clause-left
windows-requires-clause-left g c = (c.requires.header.numbers Left).1
