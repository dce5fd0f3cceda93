-- The outcomes of `audit` and `export`, which read a table's text and keep no table.
use Rattle.std.specs.Prelude.{◌≡◌, ℕ, List, [], ◌∷◌, length, sum_by, ◌-◌, ◌++◌, Some, None}
use Rattle.rule_table.specs.Table.{Rule, Family, Table}
use Rattle.command_runs.specs.Plans.{Outcome, Refuses, Does}
use Rattle.audit_cli.specs.declared.refusal.Refusal.{Refusal}
use Rattle.audit_cli.specs.Printed.{refusal_line, entries_line, formula_line, IsUnaudited, IsAudited, IsUnlisted}
use Rattle.std.specs.List.{flat_map}
use Rattle.cnf_gates.specs.Cnf.{Cnf, dimacs}
use Rattle.lrat_check.specs.Text.{Content, text_of}
use Rattle.rule_table.specs.Refused.{IsText}
use Rattle.table_audit.specs.declared.errors.EntryFault.TheVariants as fault
use Rattle.table_audit.specs.declared.errors.FamilyKind.TheVariants as family
use Rattle.table_audit.specs.Shorter.{SidesFit, formula_of}
use Rattle.table_audit.specs.Families.{entry_at, entry_of, family_at, raised_formula, IsRaisable}
use Rattle.audit_cli.specs.declared.refusal.Refusal.TheVariants as refusal

-- ---- `audit` ----

-- how many open numbers an entry has, and all entries of a table together
abbrev pub open_count : Rule → ℕ
open_count e = length e.opens

abbrev pub opens_of : Table → ℕ
opens_of t = sum_by open_count t.rules

-- the outcome for a text: it is no table, or one that the audit refuses; or its entries and open numbers are counted
pub data Audits (text : List ℕ) : Outcome → Type 0 where
  unaudited : (r : Refusal) → IsUnaudited text r → Audits text (Refuses (refusal_line r))
  accepted : (t : Table) → IsAudited text t → Audits text (Does [] (entries_line (length t.rules) (opens_of t)))

-- `audit` takes one text
abbrev pub AuditComesTo : List (List ℕ) → Outcome → Type 0
AuditComesTo texts o = (text : List ℕ) × (texts ≡ text ∷ []) × Audits text o

-- ---- `export` ----

-- the number of the entry or family, counted from 1, the families after the entries, and the names that its formula and its proof are kept under
pub record ExportArguments : Type 0 where
  pub entry : ℕ
  pub cnf : List ℕ
  pub lrat : List ℕ

-- the lines of a proof, each with its newline
abbrev pub proof_text : List Content → List ℕ
proof_text lines = flat_map (λ line. text_of line ++ 10 ∷ []) lines

-- the formula is kept, and then the proof
abbrev pub exported : ExportArguments → Cnf → List Content → Outcome
exported to f proof = Does ((to.cnf, dimacs f) ∷ (to.lrat, proof_text proof) ∷ []) (formula_line f.variables (length f.clauses) (length proof))

-- the outcome for an entry: its sides or mask are not what the table's header allows, or its formula and proof are kept
pub data ExportsEntry (to : ExportArguments) (t : Table) (e : Rule) : Outcome → Type 0 where
  unfit : (SidesFit t e → ⊥) → ExportsEntry to t e (Refuses (refusal_line (refusal.Entry to.entry fault.Sides)))
  found : SidesFit t e → ExportsEntry to t e (exported to (formula_of t.header e) e.proof)

-- the number of a family, counted from 1 among the families, by its number after the entries
abbrev pub own_number : ExportArguments → Table → ℕ
own_number to t = to.entry - length t.rules

-- the outcome for a family: it raises no entry, or one whose sides or mask the header doesn't allow, or its number can't be raised; or its formula and
-- proof are kept
pub data ExportsFamily (to : ExportArguments) (t : Table) (f : Family) : Outcome → Type 0 where
  raises_none : entry_of t f ≡ None → ExportsFamily to t f (Refuses (refusal_line (refusal.Family (own_number to t) family.Symbol)))
  raises_unfit : (e : Rule) → entry_of t f ≡ Some e → (SidesFit t e → ⊥) → ExportsFamily to t f (Refuses (refusal_line (refusal.Entry f.entry fault.Sides)))
  unraisable : (e : Rule) → entry_of t f ≡ Some e → SidesFit t e → (IsRaisable t.header.pool f e.left → ⊥) → ExportsFamily to t f (Refuses (refusal_line (refusal.Family (own_number to t) family.Symbol)))
  raised : (e : Rule) → entry_of t f ≡ Some e → SidesFit t e → IsRaisable t.header.pool f e.left → ExportsFamily to t f (exported to (raised_formula t.header f e) f.proof)

-- the outcome for a text: it is no table, or has neither an entry nor a family of this number, or that of the entry or family
pub data Exports (to : ExportArguments) (text : List ℕ) : Outcome → Type 0 where
  refused : (r : Refusal) → IsUnlisted text r → Exports to text (Refuses (refusal_line r))
  absent : (t : Table) → IsText text t → entry_at t.rules to.entry ≡ None → family_at t to.entry ≡ None → Exports to text (Refuses (refusal_line refusal.Number))
  entry : (t : Table) → IsText text t → (e : Rule) → entry_at t.rules to.entry ≡ Some e → (o : Outcome) → ExportsEntry to t e o → Exports to text o
  of_family : (t : Table) → IsText text t → (f : Family) → family_at t to.entry ≡ Some f → (o : Outcome) → ExportsFamily to t f o → Exports to text o

-- `export` takes one text
abbrev pub ExportComesTo : ExportArguments → List (List ℕ) → Outcome → Type 0
ExportComesTo to texts o = (text : List ℕ) × (texts ≡ text ∷ []) × Exports to text o
