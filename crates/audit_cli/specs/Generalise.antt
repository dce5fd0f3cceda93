-- The outcome of `generalise`: a table with one more family, which raises an entry, or the reason why there is none.
use Rattle.std.specs.Prelude.{◌≡◌, ℕ, List, [], ◌∷◌, ◌++◌, Some, None, Result, Ok, Err, length, map, max}
use Rattle.thumb_model.specs.Effect.{AreWords, Equal}
use Rattle.window_exec.specs.State.{values_of, Tells}
use Rattle.clause_model.specs.Clauses.{codes_of}
use Rattle.lrat_check.specs.Text.{Content, content_of}
use Rattle.lrat_check.specs.Proofs.{IsSpentLog}
use Rattle.bit_blast.specs.Slots.{Byte, IsValue, instance}
use Rattle.rule_table.specs.Table.{Rule, Family, Table, IsTable}
use Rattle.table_audit.specs.Acceptance.{IsAccepted}
use Rattle.table_audit.specs.Families.{entry_of, IsRaisable, raised_formula, symbol_of}
use Rattle.table_audit.specs.Soundness.{items_in}
use Rattle.table_learn.specs.Learnt.{IsRefutation}
use Rattle.command_runs.specs.Plans.{Outcome, Refuses}
use Rattle.audit_cli.specs.declared.raising.FamilyFault.{FamilyFault}
use Rattle.audit_cli.specs.declared.raising.FamilyFault.TheVariants.{Number, Symbol, Differ, Spent, Memory}
use Rattle.audit_cli.specs.declared.refusal.Refusal.{Refusal}
use Rattle.audit_cli.specs.declared.refusal.Refusal.TheVariants as refusal
use Rattle.audit_cli.specs.Printed.{refusal_line, families_line, IsUnaudited, IsAudited}
use Rattle.audit_cli.specs.Upgrade.{IsKept}

-- the family that raises an entry, counted from 1: a number may take each value from a least to a greatest; its proof is still empty
abbrev pub wanted : (entry number low high : ℕ) → Family
wanted entry number low high = record { entry = entry; number = number; low = low; high = high; proof = [] }

-- the rule is the family's entry, and its number can be raised
pub record IsRaisableFor (t : Table) (f : Family) (e : Rule) : Type 0 where
  pub is_entry : entry_of t f ≡ Some e
  pub raisable : IsRaisable t.header.pool f e.left

-- the table with one more family, after all others, in version 3, or in its own version if that is later
abbrev pub with_family : Table → Family → Table
with_family t f = record t { header = record t.header { version = max 3 t.header.version }; families = t.families ++ f ∷ [] }

-- the table is the given one with this family, which has a proof by the solver, and the audit accepts it
pub record IsGeneralised (t : Table) (f : Family) (raised : Table) : Type 0 where
  pub entry : Rule
  pub raisable : IsRaisableFor t f entry
  pub proof : List Content
  pub refutes : IsRefutation t.header.budget (raised_formula t.header f entry) proof
  pub is : raised ≡ with_family t (record f { proof = proof })
  pub valid : IsTable raised
  pub accepted : IsAccepted raised

-- ---- why there is no such family ----

-- the table has no such entry
abbrev pub HasNone : Table → Family → Type 0
HasNone t f = entry_of t f ≡ None

-- the entry exists, but its number can't be raised in this way
abbrev pub IsUnraisable : Table → Family → Type 0
IsUnraisable t f = (e : Rule) × (entry_of t f ≡ Some e) × (IsRaisable t.header.pool f e.left → ⊥)

-- the family's sides with a value have different effects from a state
pub record DifferAt (t : Table) (f : Family) (value : ℕ) (v : ℕ → ℕ) : Type 0 where
  pub entry : Rule
  pub raisable : IsRaisableFor t f entry
  pub byte : Byte
  pub same : byte.number ≡ value
  pub within : IsValue (symbol_of f) byte
  pub words : AreWords v
  pub tells : Tells v (instance f.number entry.left byte) (instance f.number entry.right byte) entry.mask

-- the log spends the table's budget on the family's formula
pub record IsSpentOn (t : Table) (f : Family) (log : List Content) : Type 0 where
  pub entry : Rule
  pub raisable : IsRaisableFor t f entry
  pub spent : IsSpentLog t.header.budget (codes_of (raised_formula t.header f entry).clauses) log

-- what each fault of the code says
abbrev pub FailsFor : Table → Family → FamilyFault → Type 0
FailsFor t f Number = HasNone t f
FailsFor t f Symbol = IsUnraisable t f
FailsFor t f (Differ state value) = DifferAt t f value (values_of state)
FailsFor t f (Spent log) = IsSpentOn t f (map content_of log.items)
FailsFor t f Memory = Unit {0}

-- ---- the command ----

-- a table gets no such family: it has no such entry, or its number can't be raised in this way, or its sides with some value differ under the mask, or some
-- log spends the budget
pub data IsUnraised (t : Table) (f : Family) : Refusal → Type 0 where
  no_entry : HasNone t f → IsUnraised t f refusal.Number
  unraisable : IsUnraisable t f → IsUnraised t f refusal.Symbol
  differ : (e : Rule) → IsRaisableFor t f e → (x : Byte) → IsValue (symbol_of f) x → (Equal (instance f.number e.left x) (instance f.number e.right x) (items_in e.mask) → ⊥) → IsUnraised t f (refusal.Differ x.number)
  spent : (log : List Content) → IsSpentOn t f log → IsUnraised t f (refusal.Spent t.header.budget)

-- the result of raising
abbrev pub Raises : Table → Family → Result Table Refusal → Type 0
Raises t f (Ok raised) = IsGeneralised t f raised
Raises t f (Err r) = IsUnraised t f r

-- the outcome for a text: it is no table, or one that the audit refuses, or one that gets no such family; or the table with the family is kept, and its
-- families and the lines of the proof are counted
pub data Generalises (out : List ℕ) (f : Family) (text : List ℕ) : Outcome → Type 0 where
  unaudited : (r : Refusal) → IsUnaudited text r → Generalises out f text (Refuses (refusal_line r))
  unraised : (t : Table) → IsAudited text t → (r : Refusal) → IsUnraised t f r → Generalises out f text (Refuses (refusal_line r))
  generalised : (t : Table) → IsAudited text t → (raised : Table) (h : IsGeneralised t f raised) (o : Outcome) → IsKept out raised (families_line (length raised.families) (length h.proof)) o → Generalises out f text o

-- `generalise` takes one text
abbrev pub GeneraliseComesTo : List ℕ → Family → List (List ℕ) → Outcome → Type 0
GeneraliseComesTo out f texts o = (text : List ℕ) × (texts ≡ text ∷ []) × Generalises out f text o
