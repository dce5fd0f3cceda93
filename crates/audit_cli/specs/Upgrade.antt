-- The outcome of `upgrade`: a table of version 1 is kept in version 2, one of a later version as it is.
use Rattle.std.specs.Prelude.{◌≡◌, ◌<◌, ◌≤◌, ℕ, List, [], ◌∷◌, length, max}
use Rattle.rule_table.specs.Table.{Table}
use Rattle.rule_table.specs.Text.{text_of}
use Rattle.ascii_scan.specs.Lines.{text_limit}
use Rattle.table_learn.specs.Learnt.{text_length}
use Rattle.command_runs.specs.Plans.{Outcome, Refuses, Does}
use Rattle.audit_cli.specs.declared.refusal.Refusal.{Refusal}
use Rattle.audit_cli.specs.declared.refusal.Refusal.TheVariants as refusal
use Rattle.audit_cli.specs.Printed.{refusal_line, entries_line, IsUnaudited, IsAudited}
use Rattle.audit_cli.specs.Tables.{opens_of}

-- the table in version 2, or as it is where its version is a later one
abbrev pub upgraded : Table → Table
upgraded t = record t { header = record t.header { version = max 2 t.header.version } }

-- a table's text is kept and a line printed, unless the text would be too long to be read again
pub data IsKept (out : List ℕ) (t : Table) (line : List ℕ) : Outcome → Type 0 where
  kept : text_length t ≤ text_limit → IsKept out t line (Does ((out, text_of t) ∷ []) line)
  full : text_limit < text_length t → IsKept out t line (Refuses (refusal_line (refusal.Full (text_length t))))

-- the outcome for a text: it is no table, or one that the audit refuses; or the table is kept, and its entries and open numbers are counted
pub data Upgrades (out text : List ℕ) : Outcome → Type 0 where
  unaudited : (r : Refusal) → IsUnaudited text r → Upgrades out text (Refuses (refusal_line r))
  accepted : (t : Table) → IsAudited text t → (o : Outcome) → IsKept out (upgraded t) (entries_line (length t.rules) (opens_of t)) o → Upgrades out text o

-- `upgrade` takes one text
abbrev pub UpgradeComesTo : List ℕ → List (List ℕ) → Outcome → Type 0
UpgradeComesTo out texts o = (text : List ℕ) × (texts ≡ text ∷ []) × Upgrades out text o
