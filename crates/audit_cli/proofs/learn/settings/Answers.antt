use Rattle.audit_cli.proofs.learn.settings.Goals as goal

pub returns-clause-limits : goal.returns-clause-limits
returns-clause-limits c = record { header = c.header.ensures.valid; version = c.header.ensures.version }
