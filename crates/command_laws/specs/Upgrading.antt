-- A table and its upgrade: the audit has the same verdict on both, and rewriting by them is the same.
use Rattle.std.specs.Prelude.{◌≡◌, ◌≤◌, ◌↔◌, ℕ, List, Option}
use Rattle.rule_table.specs.Table.{Table, IsTable}
use Rattle.rule_table.specs.Refused.{IsText}
use Rattle.rule_table.specs.Text.{text_of}
use Rattle.table_audit.specs.declared.errors.AuditError.{AuditError}
use Rattle.table_audit.specs.Acceptance.{TableVerdict}
use Rattle.window_rewrite.specs.TableRewriting.{setting}
use Rattle.audit_cli.specs.Upgrade.{upgraded}

-- the upgrade has a text, and the audit has the same verdict on it
abbrev pub UpgradesAreTables : Type 0
UpgradesAreTables = (t : Table) → IsTable t → IsTable (upgraded t)

abbrev pub UpgradesAreAuditedAlike : Type 0
UpgradesAreAuditedAlike = (t : Table) (verdict : Option AuditError) → TableVerdict t verdict ↔ TableVerdict (upgraded t) verdict

-- rewriting by the upgrade is rewriting by the table
abbrev pub UpgradesRewriteAlike : Type 0
UpgradesRewriteAlike = (t : Table) (base : ℕ) → setting base (upgraded t) ≡ setting base t

-- a table of a later version is kept byte for byte
abbrev pub LaterTablesAreKept : Type 0
LaterTablesAreKept = (text : List ℕ) (t : Table) → IsText text t → 2 ≤ t.header.version → text_of (upgraded t) ≡ text
