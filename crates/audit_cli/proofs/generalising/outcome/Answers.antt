use Rattle.std.proofs.Common.{◌≡◌, ◌∙◌, ◌+◌, ◌∷◌, [], List, ℕ, ap, sym, subst, length, length-append, Result}
use Rattle.std.specs.Result.{result_map_both}
use Rattle.rule_table.specs.declared.table.Table.{Table as Held}
use Rattle.rule_table.specs.Table.{Table}
use Rattle.rule_table.specs.Views.{table_of}
use Rattle.command_runs.specs.Outcomes.{outcome_view}
use Rattle.audit_cli.specs.declared.refusal.Refusal.{Refusal}
use Rattle.audit_cli.specs.Printed.{families_line}
use Rattle.audit_cli.specs.Commands.{wanted_by}
use Rattle.audit_cli.specs.Upgrade.{IsKept}
use Rattle.audit_cli.specs.Generalise.{Generalises, unaudited, unraised, generalised, IsGeneralised, IsUnraised, Raises}
use Rattle.audit_cli.proofs.StepLemmas.{is_audited, not_audited, refused_ok, ok_so}
use Rattle.audit_cli.proofs.generalising.outcome.Goals as goal

pub returns-in-Err : goal.returns-in-Err
returns-in-Err g c =
    refused_ok outcome_view (Generalises c.args.to.now.out.now (wanted_by c.args.to.now) c.args.text.now) c.in-Err.refusal c.refused.result c.refused.ensures
    (unaudited c.in-Err.refusal (not_audited table_of c.args.text.now c.in_ok-refusal.field-0 c.in-Err.refusal c.in_ok-refusal.ensures c.in-Err.is))

pub returns-in-Err-2 : goal.returns-in-Err-2
returns-in-Err-2 g c =
    let f = wanted_by c.args.to.now in
    let t = table_of c.in-Ok.audited in
    let is = is_audited table_of c.args.text.now c.in_ok-refusal.field-0 c.in-Ok.audited c.in_ok-refusal.ensures c.in-Ok.is in
    let h : IsUnraised t f c.in-Err-2.refusal = subst (λ (x : Result Held Refusal). Raises t f (result_map_both table_of (λ e. e) x)) c.in-Err-2.is c.in_ok-refusal-in-Ok.ensures in
    refused_ok outcome_view (Generalises c.args.to.now.out.now f c.args.text.now) c.in-Err-2.refusal c.refused-in-Err-2.result c.refused-in-Err-2.ensures (unraised t is c.in-Err-2.refusal h)

pub returns-in_ok-lines-in-Ok-2 : goal.returns-in_ok-lines-in-Ok-2
returns-in_ok-lines-in-Ok-2 g c =
    let f = wanted_by c.args.to.now in
    let t = table_of c.in-Ok.audited in
    let raised = table_of c.in-Ok-2.table in
    let is = is_audited table_of c.args.text.now c.in_ok-refusal.field-0 c.in-Ok.audited c.in_ok-refusal.ensures c.in-Ok.is in
    let h : IsGeneralised t f raised = subst (λ (x : Result Held Refusal). Raises t f (result_map_both table_of (λ e. e) x)) c.in-Ok-2.is c.in_ok-refusal-in-Ok.ensures in
    let families = ap (λ (u : Table). u.families) h.is in
    let count : length raised.families ≡ length t.families + 1 = ap (λ (u : Table). length u.families) h.is ∙ length-append t.families (record f { proof = h.proof } ∷ []) in
    let told = c.in_ok-lines-in-Ok-2.ensures t.families (record f { proof = h.proof }) families in
    let line : c.in_ok-lines-in-Ok-2.lines.items ≡ families_line (length raised.families) (length h.proof) = told ∙ ap (λ n. families_line n (length h.proof)) (sym count) in
    ok_so c.kept.result _ _ c.kept.ensures (λ o k. generalised t is raised h (outcome_view o) (subst (λ (l : List ℕ). IsKept c.args.to.now.out.now raised l (outcome_view o)) line k))
