-- Learnt tables pass the audit.
use Rattle.std.specs.Prelude.{◌≡◌, List, Result, Ok, IfErr}
use Rattle.rule_table.specs.declared.table.Table as code
use Rattle.rule_table.specs.Table.{Table, IsTable}
use Rattle.rule_table.specs.Text.{text_of}
use Rattle.rule_table.specs.Views.{table_of}
use Rattle.rule_table.specs.Reading.{Reads}
use Rattle.lrat_check.specs.Proofs.{Answers}
use Rattle.table_audit.specs.declared.errors.AuditError.{AuditError}
use Rattle.table_audit.specs.declared.errors.AuditError.TheVariants.{Memory}
use Rattle.table_audit.specs.Acceptance.{TableVerdict}
use Rattle.table_learn.specs.Learnt.{Settings, Window, Learnt}

-- if a table is read from a learnt table's text, the audit doesn't refuse it; only memory may run out
abbrev pub LearntPass : Type 0
LearntPass = (s : Settings) (windows : List Window) (t : Table) (read : code.Table) (answer : Result code.Table AuditError) → Learnt s windows t → IsTable t
    → Reads (text_of t) (Ok read) → Answers Memory answer (TableVerdict (table_of read)) → IfErr answer (λ e. e ≡ Memory)
