use Rattle.rule_table.specs.Views.{table_of}
use Rattle.audit_cli.specs.Printed.{no_table}
use Rattle.audit_cli.proofs.StepLemmas.{not_listed}
use Rattle.audit_cli.proofs.steps.read_audited.Goals as goal

pub returns-in-Err : goal.returns-in-Err
returns-in-Err g c = no_table c.in-Err.refusal (not_listed table_of c.args.text.now c.in_ok-refusal.field-0 c.in-Err.refusal c.in_ok-refusal.ensures c.in-Err.is)
