use Rattle.std.proofs.Common.{rules, ◌≡◌}
use Rattle.std.specs.Prelude.{None}
use Rattle.thumb_model.specs.Listing.{code_of, place_of}
use Rattle.command_runs.specs.Outcomes.{outcome_view}
use Rattle.audit_cli.specs.declared.refusal.Refusal.TheVariants as refusal
use Rattle.audit_cli.specs.Commands.{trace_arguments_of}
use Rattle.audit_cli.specs.Trace.{LinesTrace, unlaid, unlabelled}
use Rattle.audit_cli.proofs.StepLemmas.{is_laid, not_laid, refused_ok}
use Rattle.audit_cli.proofs.trace.listing_outcome.Goals as goal

pub returns-in-Err : goal.returns-in-Err
returns-in-Err c =
    refused_ok outcome_view (LinesTrace (trace_arguments_of c.args.trace.now) c.args.listing.now) c.in-Err.refusal c.refused.result c.refused.ensures
    (unlaid c.in-Err.refusal (not_laid 0 c.args.listing.now c.in_ok-refusal.field-0 c.in-Err.refusal c.in_ok-refusal.ensures c.in-Err.is))

pub returns-in-None : goal.returns-in-None
returns-in-None c =
    let none : place_of (code_of c.args.listing.now) c.args.trace.now.label.now ≡ None = search rules in
    refused_ok outcome_view (LinesTrace (trace_arguments_of c.args.trace.now) c.args.listing.now) refusal.Label c.refused-in-None.result c.refused-in-None.ensures
    (unlabelled (is_laid 0 c.args.listing.now c.in_ok-refusal.field-0 c.in-Ok.laid c.in_ok-refusal.ensures c.in-Ok.is) none)
