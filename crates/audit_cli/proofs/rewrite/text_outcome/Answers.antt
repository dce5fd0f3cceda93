use Rattle.std.proofs.Common.{ℕ, List, subst, sym}
use Rattle.listing_parser.specs.Parsing.{IsListing}
use Rattle.listing_parser.proofs.PrintLemmas.{prints_back}
use Rattle.rule_table.specs.Views.{table_of}
use Rattle.command_runs.specs.Outcomes.{outcome_view}
use Rattle.audit_cli.specs.Commands.{destination_of}
use Rattle.audit_cli.specs.Rewrite.{Rewrites, unread, read}
use Rattle.audit_cli.proofs.StepLemmas.{is_read, not_read, refused_ok, ok_so}
use Rattle.audit_cli.proofs.rewrite.text_outcome.Goals as goal

pub lines_outcome-requires-clause-listed : goal.lines_outcome-requires-clause-listed
lines_outcome-requires-clause-listed g c =
    let is = is_read c.args.text.now c.in_ok-refusal.field-0 c.in-Ok.listing c.in_ok-refusal.ensures c.in-Ok.is in
    subst (λ (bytes : List ℕ). IsListing bytes c.in-Ok.listing) (sym (prints_back c.args.text.now c.in-Ok.listing is)) is

pub returns-in-Err : goal.returns-in-Err
returns-in-Err g c =
    refused_ok outcome_view (Rewrites (destination_of c.args.to.now) (table_of c.args.table.now) c.args.text.now) c.in-Err.refusal c.refused.result c.refused.ensures
    (unread c.in-Err.refusal (not_read c.args.text.now c.in_ok-refusal.field-0 c.in-Err.refusal c.in_ok-refusal.ensures c.in-Err.is))

pub returns-in-Ok : goal.returns-in-Ok
returns-in-Ok g c =
    ok_so c.lines_outcome.result _ _ c.lines_outcome.ensures (λ o h. read c.in-Ok.listing (is_read c.args.text.now c.in_ok-refusal.field-0 c.in-Ok.listing c.in_ok-refusal.ensures c.in-Ok.is) (outcome_view o) h)
