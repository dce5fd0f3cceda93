use Rattle.rule_table.specs.Views.{table_of}
use Rattle.command_runs.specs.Outcomes.{outcome_view}
use Rattle.audit_cli.specs.Commands.{export_arguments_of}
use Rattle.audit_cli.specs.Tables.{Exports, refused}
use Rattle.audit_cli.proofs.StepLemmas.{is_listed, not_listed, refused_ok}
use Rattle.audit_cli.proofs.export.outcome.Goals as goal

pub returns-in-Err : goal.returns-in-Err
returns-in-Err c =
    refused_ok outcome_view (Exports (export_arguments_of c.args.to.now) c.args.text.now) c.in-Err.refusal c.refused.result c.refused.ensures
    (refused c.in-Err.refusal (not_listed table_of c.args.text.now c.in_ok-refusal.field-0 c.in-Err.refusal c.in_ok-refusal.ensures c.in-Err.is))

pub returns-in-Ok : goal.returns-in-Ok
returns-in-Ok c = c.table_outcome.ensures c.args.text.now (is_listed table_of c.args.text.now c.in_ok-refusal.field-0 c.in-Ok.table c.in_ok-refusal.ensures c.in-Ok.is)
