use Rattle.std.proofs.Common.{◌≤◌, length, map, arith}
use Rattle.std.proofs.lemmas.List.{length-map}
use Rattle.window_exec.specs.State.{seen}
use Rattle.rule_table.specs.Views.{table_of}
use Rattle.table_audit.proofs.Limits.{many_states, header_short}
use Rattle.table_audit.proofs.verdict.check_table.Goals as goal

pub check_entries-requires-clause-states : goal.check_entries-requires-clause-states
check_entries-requires-clause-states g c =
    let many : 64 ≤ length (map seen c.args.table.now.states) = many_states (table_of c.args.table.now) c.in_ok-check_states.ensures in
    omega (arith, many, length-map c.args.table.now.states seen)

pub check_entries-requires-clause-short : goal.check_entries-requires-clause-short
check_entries-requires-clause-short g c = header_short (table_of c.args.table.now) c.requires c.in_ok-check_width.ensures
