-- The outcome of `trim`: the same table, with its proofs reduced to the lines and hints that they need.
use Rattle.std.specs.Prelude.{◌≡◌, ℕ, ◌+◌, List, [], ◌∷◌, length, sum_by, Some}
use Rattle.std.specs.List.{AllZip}
use Rattle.clause_model.specs.Clauses.{codes_of}
use Rattle.lrat_check.specs.Text.{IsTrimmed}
use Rattle.rule_table.specs.Header.{Header}
use Rattle.rule_table.specs.Table.{Rule, Family, Table}
use Rattle.rule_table.specs.Text.{text_of}
use Rattle.table_audit.specs.Shorter.{formula_of}
use Rattle.table_audit.specs.Families.{entry_at, raised_formula}
use Rattle.command_runs.specs.Plans.{Outcome, Refuses, Does}
use Rattle.audit_cli.specs.declared.refusal.Refusal.{Refusal}
use Rattle.audit_cli.specs.Printed.{refusal_line, trimmed_line, IsUnaudited, IsAudited}

-- an entry with its proof trimmed, and else the same
pub record IsTrimmedRule (h : Header) (e trimmed : Rule) : Type 0 where
  pub same : trimmed ≡ record e { proof = trimmed.proof }
  pub proof : IsTrimmed (codes_of (formula_of h e).clauses) e.proof trimmed.proof

-- a family of these entries with its proof trimmed, and else the same
pub record IsTrimmedFamily (h : Header) (rules : List Rule) (f trimmed : Family) : Type 0 where
  pub same : trimmed ≡ record f { proof = trimmed.proof }
  pub entry : Rule
  pub is_entry : entry_at rules f.entry ≡ Some entry
  pub proof : IsTrimmed (codes_of (raised_formula h f entry).clauses) f.proof trimmed.proof

-- a table with the proofs of its entries and families trimmed, and else the same
pub record IsTrimmedTable (t trimmed : Table) : Type 0 where
  pub header : trimmed.header ≡ t.header
  pub states : trimmed.states ≡ t.states
  pub rules : AllZip (IsTrimmedRule t.header) t.rules trimmed.rules
  pub families : AllZip (IsTrimmedFamily t.header t.rules) t.families trimmed.families

-- how many lines the proofs of a table's entries and families have
abbrev pub lines_in : Table → ℕ
lines_in t = sum_by (λ (e : Rule). length e.proof) t.rules + sum_by (λ (f : Family). length f.proof) t.families

-- the table's text is kept, and the number of proof lines before and after is printed
abbrev pub trimmed_outcome : List ℕ → Table → ℕ → Outcome
trimmed_outcome out trimmed before = Does ((out, text_of trimmed) ∷ []) (trimmed_line before (lines_in trimmed))

-- the outcome for an accepted table
pub record IsTrimOf (out : List ℕ) (t : Table) (o : Outcome) : Type 0 where
  pub trimmed : Table
  pub are : IsTrimmedTable t trimmed
  pub is : o ≡ trimmed_outcome out trimmed (lines_in t)

-- the outcome for a text: it is no table, or one that the audit refuses; or the table with trimmed proofs is kept
pub data Trims (out text : List ℕ) : Outcome → Type 0 where
  unaudited : (r : Refusal) → IsUnaudited text r → Trims out text (Refuses (refusal_line r))
  accepted : (t : Table) → IsAudited text t → (o : Outcome) → IsTrimOf out t o → Trims out text o

-- `trim` takes one text
abbrev pub TrimComesTo : List ℕ → List (List ℕ) → Outcome → Type 0
TrimComesTo out texts o = (text : List ℕ) × (texts ≡ text ∷ []) × Trims out text o
