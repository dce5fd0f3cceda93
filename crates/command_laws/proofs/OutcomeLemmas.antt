-- Texts have at most one outcome for each request that doesn't ask the solver: all commands together.
use Rattle.command_line.specs.CommandLine.{rewrite, audit, learn, export, trace, demo, upgrade, trim, tidy, generalise}
use Rattle.command_laws.specs.Once.{TextsComeToOne}
use Rattle.command_laws.proofs.OnceLemmas.{rewrite_once, audit_once, export_once, upgrade_once, trim_once}
use Rattle.command_laws.proofs.TraceOnceLemmas.{trace_once}
use Rattle.command_laws.proofs.TidyOnceLemmas.{tidy_once}

pub come_to_one : TextsComeToOne
come_to_one (rewrite table listing out image base) plain = rewrite_once (record { out = out; image = image; base = base })
come_to_one (audit table) plain = audit_once
come_to_one (learn listing out costs settings) plain = absurd (plain tt)
come_to_one (export table entry cnf lrat) plain = export_once (record { entry = entry; cnf = cnf; lrat = lrat })
come_to_one (trace listing label steps) plain = trace_once (record { label = label; most = steps })
come_to_one (demo windows) plain = absurd (plain tt)
come_to_one (upgrade table out) plain = upgrade_once out
come_to_one (trim table out) plain = trim_once out
come_to_one (tidy listing out base) plain = tidy_once base out
come_to_one (generalise table entry number low high out) plain = absurd (plain tt)
