use Rattle.std.proofs.Common.{sym, subst}
use Rattle.rule_table.specs.Views.{rule_of, table_of}
use Rattle.audit_cli.specs.Commands.{export_arguments_of}
use Rattle.audit_cli.specs.Tables.{ExportsEntry, unfit, found}
use Rattle.audit_cli.proofs.StepLemmas.{ok_so}
use Rattle.audit_cli.proofs.export.entry_outcome.Goals as goal

pub returns-then-not-sides_fit : goal.returns-then-not-sides_fit
returns-then-not-sides_fit c =
    ok_so c.unfit.result _ _ c.unfit.ensures (λ o is.
    subst (ExportsEntry (export_arguments_of c.args.to.now) (table_of c.args.table.now) (rule_of c.args.entry.now)) (sym is)
    (unfit (λ fit. let bad = c.sides_fit.ensures.fit.1 fit in let no = c.if-not-sides_fit.true in cc)))

pub returns : goal.returns
returns c =
    ok_so c.fit_entry.result _ _ c.fit_entry.ensures (λ o is.
    subst (ExportsEntry (export_arguments_of c.args.to.now) (table_of c.args.table.now) (rule_of c.args.entry.now)) (sym is)
    (found (c.sides_fit.ensures.fit.0 c.if-not-sides_fit.false)))
