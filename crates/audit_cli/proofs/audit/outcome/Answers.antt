use Rattle.std.proofs.Common.{◌∙◌, ◌<◌, ◌^◌, rules, arith, sym, subst, ap, length, List, [], ℕ}
use Rattle.rule_table.specs.Views.{table_of}
use Rattle.command_runs.specs.Plans.{Does}
use Rattle.command_runs.specs.Outcomes.{outcome_view}
use Rattle.audit_cli.specs.Tables.{Audits, unaudited, accepted}
use Rattle.audit_cli.proofs.StepLemmas.{is_audited, not_audited, refused_ok}
use Rattle.audit_cli.proofs.TableTexts.{opens_within}
use Rattle.audit_cli.proofs.audit.outcome.Goals as goal

pub returns-in-Err : goal.returns-in-Err
returns-in-Err g c =
    refused_ok outcome_view (Audits c.args.text.now) c.in-Err.refusal c.refused.result c.refused.ensures
    (unaudited c.in-Err.refusal (not_audited table_of c.args.text.now c.in_ok-refusal.field-0 c.in-Err.refusal c.in_ok-refusal.ensures c.in-Err.is))

pub returns-in_ok-lines-in-Ok : goal.returns-in_ok-lines-in-Ok
returns-in_ok-lines-in-Ok g c =
    let t = table_of c.in-Ok.audited in
    let is = is_audited table_of c.args.text.now c.in_ok-refusal.field-0 c.in-Ok.audited c.in_ok-refusal.ensures c.in-Ok.is in
    subst (Audits c.args.text.now) (sym (c.prints-outcome.ensures ∙ ap (λ (printed : List ℕ). Does [] printed) c.in_ok-lines-in-Ok.ensures)) (accepted t is)

pub audited_report-requires : goal.audited_report-requires
audited_report-requires g c =
    let t = table_of c.in-Ok.audited in
    let is = is_audited table_of c.args.text.now c.in_ok-refusal.field-0 c.in-Ok.audited c.in_ok-refusal.ensures c.in-Ok.is in
    let few = opens_within c.args.text.now t is.is in
    let short : length c.args.text.now < 2 ^ 63 = search rules in
    omega arith
