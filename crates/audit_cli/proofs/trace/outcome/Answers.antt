use Rattle.command_runs.specs.Outcomes.{outcome_view}
use Rattle.audit_cli.specs.Commands.{trace_arguments_of}
use Rattle.audit_cli.specs.Trace.{Traces, unread, read}
use Rattle.audit_cli.proofs.StepLemmas.{is_read, not_read, refused_ok, ok_so}
use Rattle.audit_cli.proofs.trace.outcome.Goals as goal

pub returns-in-Err : goal.returns-in-Err
returns-in-Err c =
    refused_ok outcome_view (Traces (trace_arguments_of c.args.trace.now) c.args.text.now) c.in-Err.refusal c.refused.result c.refused.ensures
    (unread c.in-Err.refusal (not_read c.args.text.now c.in_ok-refusal.field-0 c.in-Err.refusal c.in_ok-refusal.ensures c.in-Err.is))

pub returns-in-Ok : goal.returns-in-Ok
returns-in-Ok c =
    ok_so c.listing_outcome.result _ _ c.listing_outcome.ensures (λ o h. read c.in-Ok.listing (is_read c.args.text.now c.in_ok-refusal.field-0 c.in-Ok.listing c.in_ok-refusal.ensures c.in-Ok.is) (outcome_view o) h)
