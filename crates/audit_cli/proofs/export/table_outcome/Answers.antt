use Rattle.std.proofs.Common.{◌≡◌, rules, sym, subst, None, Some}
use Rattle.rule_table.specs.Views.{rule_of, family_of, table_of}
use Rattle.table_audit.specs.Families.{entry_at, family_at}
use Rattle.command_runs.specs.Outcomes.{outcome_view}
use Rattle.audit_cli.specs.Commands.{export_arguments_of}
use Rattle.audit_cli.specs.Tables as tables
use Rattle.audit_cli.proofs.StepLemmas.{ok_so}
use Rattle.audit_cli.proofs.export.table_outcome.Goals as goal

pub returns-in-Some : goal.returns-in-Some
returns-in-Some c = λ text is.
    let t = table_of c.args.table.now in
    let e = rule_of c.in-Some.entry.now in
    let at : entry_at t.rules c.args.to.now.entry ≡ Some e = search rules in
    ok_so c.entry_outcome.result _ _ c.entry_outcome.ensures (λ o h. tables.entry t is e at (outcome_view o) h)

pub returns-in-None : goal.returns-in-None
returns-in-None c = λ text is.
    let t = table_of c.args.table.now in
    let entry : entry_at t.rules c.args.to.now.entry ≡ None = search rules in
    let family : family_at t c.args.to.now.entry ≡ None = search rules in
    ok_so c.refused.result _ _ c.refused.ensures (λ o h. subst (tables.Exports (export_arguments_of c.args.to.now) text) (sym h) (tables.absent t is entry family))

pub returns-in-Some-family_at : goal.returns-in-Some-family_at
returns-in-Some-family_at c = λ text is.
    let t = table_of c.args.table.now in
    let f = family_of c.in-Some-family_at.family.now in
    let at : family_at t c.args.to.now.entry ≡ Some f = search rules in
    ok_so c.family_outcome.result _ _ c.family_outcome.ensures (λ o h. tables.of_family t is f at (outcome_view o) h)
