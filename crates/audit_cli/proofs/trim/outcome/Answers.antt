use Rattle.std.proofs.Common.{◌≡◌, ◌<◌, ◌^◌, rules, arith, sym, ap, subst, length, List, ℕ}
use Rattle.rule_table.specs.declared.table.Table.{Table as Held}
use Rattle.rule_table.specs.Text.{text_of}
use Rattle.rule_table.specs.Views.{table_of}
use Rattle.command_runs.specs.Outcomes.{outcome_view}
use Rattle.audit_cli.specs.Printed.{IsAudited}
use Rattle.audit_cli.specs.Trim.{Trims, unaudited, accepted, lines_in}
use Rattle.audit_cli.proofs.StepLemmas.{is_audited, not_audited, refused_ok, ok_so}
use Rattle.audit_cli.proofs.TableTexts.{proofs_within}
use Rattle.audit_cli.proofs.trim.outcome.Goals as goal

pub returns-in-Err : goal.returns-in-Err
returns-in-Err g c =
    refused_ok outcome_view (Trims c.args.out.now c.args.text.now) c.in-Err.refusal c.refused.result c.refused.ensures
    (unaudited c.in-Err.refusal (not_audited table_of c.args.text.now c.in_ok-refusal.field-0 c.in-Err.refusal c.in_ok-refusal.ensures c.in-Err.is))

pub table_outcome-requires-clause-few : goal.table_outcome-requires-clause-few
table_outcome-requires-clause-few g c =
    let t = table_of c.in-Ok.audited in
    let is = is_audited table_of c.args.text.now c.in_ok-refusal.field-0 c.in-Ok.audited c.in_ok-refusal.ensures c.in-Ok.is in
    let within = proofs_within t in
    let whole : length (text_of t) ≡ length c.args.text.now = ap (λ (bytes : List ℕ). length bytes) is.is.whole in
    let short : length c.args.text.now < 2 ^ 63 = search rules in
    let few : lines_in t < 2 ^ 63 = omega (arith, within, whole, short) in
    subst (λ (h : Held). lines_in (table_of h) < 2 ^ 63) (sym c.into_table.ensures.value) few

pub returns-in-Ok : goal.returns-in-Ok
returns-in-Ok g c =
    let is = is_audited table_of c.args.text.now c.in_ok-refusal.field-0 c.in-Ok.audited c.in_ok-refusal.ensures c.in-Ok.is in
    ok_so c.table_outcome.result _ _ c.table_outcome.ensures (λ o h. accepted (table_of c.into_table.result) (subst (λ (h : Held). IsAudited c.args.text.now (table_of h)) (sym c.into_table.ensures.value) is) (outcome_view o) h)
