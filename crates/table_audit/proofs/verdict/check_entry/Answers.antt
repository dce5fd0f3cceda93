use Rattle.std.proofs.Common.{length}
use Rattle.rule_table.specs.Views.{rule_of, table_of}
use Rattle.table_audit.specs.Shorter.{SidesFit}
use Rattle.table_audit.proofs.Limits.{lengths_within}
use Rattle.table_audit.proofs.verdict.check_entry.Goals as goal

pub check_shorter-requires-clause-short : goal.check_shorter-requires-clause-short
check_shorter-requires-clause-short g c =
    let fits : SidesFit (table_of c.args.table.now) (rule_of c.args.entry.now) = c.sides_fit.ensures.fit.0 c.if-not-sides_fit.false in
    lengths_within c.args.table.now.costs (length c.args.entry.now.left) c.args.table.now.left fits.short c.requires.short
