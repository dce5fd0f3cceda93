use Rattle.listing_parser.proofs.Literals.{literals_stand}
use Rattle.command_runs.specs.Outcomes.{outcome_view}
use Rattle.audit_cli.specs.Tidy.{Tidies, unread, read}
use Rattle.audit_cli.proofs.StepLemmas.{is_read, not_read, refused_ok, ok_so}
use Rattle.audit_cli.proofs.tidy.outcome.Goals as goal

pub lines_outcome-requires : goal.lines_outcome-requires
lines_outcome-requires g c = literals_stand c.args.text.now c.in-Ok.listing (is_read c.args.text.now c.in_ok-refusal.field-0 c.in-Ok.listing c.in_ok-refusal.ensures c.in-Ok.is)

pub returns-in-Err : goal.returns-in-Err
returns-in-Err g c =
    refused_ok outcome_view (Tidies c.args.to.now.base.address c.args.to.now.out.now c.args.text.now) c.in-Err.refusal c.refused.result c.refused.ensures
    (unread c.in-Err.refusal (not_read c.args.text.now c.in_ok-refusal.field-0 c.in-Err.refusal c.in_ok-refusal.ensures c.in-Err.is))

pub returns-in-Ok : goal.returns-in-Ok
returns-in-Ok g c =
    ok_so c.lines_outcome.result _ _ c.lines_outcome.ensures (λ o h. read c.in-Ok.listing (is_read c.args.text.now c.in_ok-refusal.field-0 c.in-Ok.listing c.in_ok-refusal.ensures c.in-Ok.is) (outcome_view o) h)
