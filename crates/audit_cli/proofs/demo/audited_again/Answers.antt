use Rattle.std.proofs.Common.{◌∙◌, sym}
use Rattle.rule_table.specs.Views.{table_of}
use Rattle.rule_table.specs.Refused.{IsText}
use Rattle.rule_table.proofs.Progress.{one_table}
use Rattle.audit_cli.proofs.StepLemmas.{is_audited, not_audited}
use Rattle.audit_cli.proofs.DemoLemmas.{never_unaudited}
use Rattle.audit_cli.proofs.demo.audited_again.Goals as goal

pub unreachable-requires : goal.unreachable-requires
unreachable-requires g c =
    let t = table_of c.args.table.now in
    let is : IsText c.deref.result.now t = record { valid = c.requires.valid; whole = sym (c.deref.ensures.value ∙ c.in_ok-text.ensures) } in
    never_unaudited c.deref.result.now t c.in-Err.field-0 is c.requires.accepted
    (not_audited table_of c.deref.result.now c.in_ok-read_audited.field-0 c.in-Err.field-0 c.in_ok-read_audited.ensures c.in-Err.is)

pub returns : goal.returns
returns g c =
    let t = table_of c.args.table.now in
    let is : IsText c.deref.result.now t = record { valid = c.requires.valid; whole = sym (c.deref.ensures.value ∙ c.in_ok-text.ensures) } in
    one_table c.deref.result.now (table_of c.in-Ok.audited) t (is_audited table_of c.deref.result.now c.in_ok-read_audited.field-0 c.in-Ok.audited c.in_ok-read_audited.ensures c.in-Ok.is).is is
