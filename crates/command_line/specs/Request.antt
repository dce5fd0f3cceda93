-- The request that a `Command` of the code stands for: its strings as bytes.
use Rattle.std.specs.Prelude.{None, option_map, string_bytes}
use Rattle.rule_table.specs.Header.{version_with}
use Rattle.rule_table.specs.Views.{learnt_by}
use Rattle.command_line.specs.CommandLine.{Request, rewrite, audit, learn, export, trace, demo, upgrade, trim, tidy, generalise}
use Rattle.command_line.specs.declared.command.Command.{Command}
use Rattle.command_line.specs.declared.command.Command.TheVariants.{Rewrite, Audit, Learn, Export, Trace, Demo, Upgrade, Trim, Tidy, Generalise}

-- the request of a command
abbrev pub request_of : Command → Request
request_of (Rewrite table listing out image base) =
    rewrite (string_bytes table) (string_bytes listing) (string_bytes out) (string_bytes image) base.address
request_of (Audit table) = audit (string_bytes table)
request_of (Learn listing out cost_text options) =
    let costs = option_map string_bytes cost_text in
    learn (string_bytes listing) (string_bytes out) costs
    (record (learnt_by options None) { version = version_with costs })
request_of (Export table entry cnf lrat) = export (string_bytes table) entry (string_bytes cnf) (string_bytes lrat)
request_of (Trace listing label steps) = trace (string_bytes listing) (string_bytes label) steps
request_of (Demo windows) = demo windows.number
request_of (Upgrade table out) = upgrade (string_bytes table) (string_bytes out)
request_of (Trim table out) = trim (string_bytes table) (string_bytes out)
request_of (Tidy listing out base) = tidy (string_bytes listing) (string_bytes out) base.address
request_of (Generalise table entry number low high out) = generalise (string_bytes table) entry number low high (string_bytes out)
