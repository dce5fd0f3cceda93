use Rattle.rule_table.specs.Views.{table_of}
use Rattle.table_audit.proofs.Sound.{accepted_sound}
use Rattle.command_runs.specs.Outcomes.{outcome_view}
use Rattle.audit_cli.specs.Commands.{destination_of}
use Rattle.audit_cli.specs.Rewrite.{Comes, unaudited, audited}
use Rattle.audit_cli.proofs.StepLemmas.{is_audited, not_audited, refused_ok, ok_so}
use Rattle.audit_cli.proofs.rewrite.outcome.Goals as goal

pub text_outcome-requires : goal.text_outcome-requires
text_outcome-requires g c =
    let is = is_audited table_of c.args.table.now c.in_ok-refusal.field-0 c.in-Ok.audited c.in_ok-refusal.ensures c.in-Ok.is in
    accepted_sound (table_of c.in-Ok.audited) is.is.valid is.accepted

pub returns-in-Err : goal.returns-in-Err
returns-in-Err g c =
    refused_ok outcome_view (Comes (destination_of c.args.to.now) c.args.table.now c.args.listing.now) c.in-Err.refusal c.refused.result c.refused.ensures
    (unaudited c.in-Err.refusal (not_audited table_of c.args.table.now c.in_ok-refusal.field-0 c.in-Err.refusal c.in_ok-refusal.ensures c.in-Err.is))

pub returns-in-Ok : goal.returns-in-Ok
returns-in-Ok g c =
    ok_so c.text_outcome.result _ _ c.text_outcome.ensures (λ o h. audited (table_of c.in-Ok.audited) (is_audited table_of c.args.table.now c.in_ok-refusal.field-0 c.in-Ok.audited c.in_ok-refusal.ensures c.in-Ok.is)
    (outcome_view o) h)
