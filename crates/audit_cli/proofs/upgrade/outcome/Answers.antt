use Rattle.std.proofs.Common.{◌≡◌, ◌∙◌, ◌<◌, ◌^◌, rules, arith, ap, subst, length, List, ℕ}
use Rattle.rule_table.specs.declared.table.Table.{Table as Held}
use Rattle.rule_table.specs.Table.{Table}
use Rattle.rule_table.specs.Views.{table_of}
use Rattle.command_runs.specs.Outcomes.{outcome_view}
use Rattle.audit_cli.specs.Upgrade.{IsKept, Upgrades, unaudited, accepted, upgraded}
use Rattle.audit_cli.proofs.StepLemmas.{is_audited, not_audited, refused_ok, ok_so}
use Rattle.audit_cli.proofs.TableTexts.{opens_within}
use Rattle.audit_cli.proofs.upgrade.outcome.Goals as goal

pub returns-in-Err : goal.returns-in-Err
returns-in-Err g c =
    refused_ok outcome_view (Upgrades c.args.out.now c.args.text.now) c.in-Err.refusal c.refused.result c.refused.ensures
    (unaudited c.in-Err.refusal (not_audited table_of c.args.text.now c.in_ok-refusal.field-0 c.in-Err.refusal c.in_ok-refusal.ensures c.in-Err.is))

pub audited_report-requires : goal.audited_report-requires
audited_report-requires g c =
    let t = table_of c.in-Ok.audited in
    let is = is_audited table_of c.args.text.now c.in_ok-refusal.field-0 c.in-Ok.audited c.in_ok-refusal.ensures c.in-Ok.is in
    let few = opens_within c.args.text.now t is.is in
    let short : length c.args.text.now < 2 ^ 63 = search rules in
    omega arith

pub returns-in_ok-lines-in-Ok : goal.returns-in_ok-lines-in-Ok
returns-in_ok-lines-in-Ok g c =
    let t = table_of c.in-Ok.audited in
    let is = is_audited table_of c.args.text.now c.in_ok-refusal.field-0 c.in-Ok.audited c.in_ok-refusal.ensures c.in-Ok.is in
    let same : table_of c.upgraded-table.result ≡ upgraded t = c.upgraded-table.ensures ∙ ap (λ (h : Held). upgraded (table_of h)) c.into_table.ensures.value in
    ok_so c.kept.result _ _ c.kept.ensures (λ o h. accepted t is (outcome_view o)
    (subst (λ (line : List ℕ). IsKept c.args.out.now (upgraded t) line (outcome_view o)) c.in_ok-lines-in-Ok.ensures
    (subst (λ (u : Table). IsKept c.args.out.now u c.in_ok-lines-in-Ok.lines.items (outcome_view o)) same h)))
