use Rattle.std.proofs.Common.{◌≡◌, rules}
use Rattle.rule_table.specs.Views.{table_of}
use Rattle.table_audit.specs.declared.errors.AuditError.TheVariants as audit
use Rattle.table_audit.specs.Acceptance.{TableVerdict}
use Rattle.audit_cli.specs.Printed.{other_state, too_wide, bad_entry, bad_family}
use Rattle.audit_cli.proofs.StepLemmas.{refused_verdict}
use Rattle.audit_cli.proofs.steps.audited.Goals as goal

pub returns-in-Err-States : goal.returns-in-Err-States
returns-in-Err-States g c = λ text is.
    let same : c.in-Err-States.field-0 ≡ audit.States c.in-Err-States.place = search rules in
    other_state (table_of c.args.table) is c.in-Err-States.place
    (refused_verdict c.audit.result c.in-Err-States.field-0 (audit.States c.in-Err-States.place) (TableVerdict (table_of c.args.table)) c.audit.ensures.answers c.in-Err-States.is same (λ m. let bad : audit.States c.in-Err-States.place ≡ audit.Memory = m in cc))

pub returns-in-Err-Wide : goal.returns-in-Err-Wide
returns-in-Err-Wide g c = λ text is.
    let same : c.in-Err-Wide.field-0 ≡ audit.Wide c.in-Err-Wide.count = search rules in
    too_wide (table_of c.args.table) is c.in-Err-Wide.count
    (refused_verdict c.audit.result c.in-Err-Wide.field-0 (audit.Wide c.in-Err-Wide.count) (TableVerdict (table_of c.args.table)) c.audit.ensures.answers c.in-Err-Wide.is same (λ m. let bad : audit.Wide c.in-Err-Wide.count ≡ audit.Memory = m in cc))

pub returns-in-Err-Entry : goal.returns-in-Err-Entry
returns-in-Err-Entry g c = λ text is.
    let same : c.in-Err-Entry.field-0 ≡ audit.Entry c.in-Err-Entry.number c.in-Err-Entry.kind = search rules in
    bad_entry (table_of c.args.table) is c.in-Err-Entry.number c.in-Err-Entry.kind
    (refused_verdict c.audit.result c.in-Err-Entry.field-0 (audit.Entry c.in-Err-Entry.number c.in-Err-Entry.kind) (TableVerdict (table_of c.args.table)) c.audit.ensures.answers c.in-Err-Entry.is same (λ m. let bad : audit.Entry c.in-Err-Entry.number c.in-Err-Entry.kind ≡ audit.Memory = m in cc))

pub returns-in-Err-Family : goal.returns-in-Err-Family
returns-in-Err-Family g c = λ text is.
    let same : c.in-Err-Family.field-0 ≡ audit.Family c.in-Err-Family.number c.in-Err-Family.kind = search rules in
    bad_family (table_of c.args.table) is c.in-Err-Family.number c.in-Err-Family.kind
    (refused_verdict c.audit.result c.in-Err-Family.field-0 (audit.Family c.in-Err-Family.number c.in-Err-Family.kind) (TableVerdict (table_of c.args.table)) c.audit.ensures.answers c.in-Err-Family.is same (λ m. let bad : audit.Family c.in-Err-Family.number c.in-Err-Family.kind ≡ audit.Memory = m in cc))
