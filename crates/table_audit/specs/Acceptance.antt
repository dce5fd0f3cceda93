-- What the audit has to answer: each test's verdict, as a predicate on no fault or a fault, and their order, so that each table has one verdict.
use Rattle.std.specs.Prelude.{ℕ, ◌≡◌, ◌<◌, ◌≤◌, ◌⊎◌, ◌+◌, false, List, Option, Some, None, length, slice_get}
use Rattle.thumb_instr.specs.declared.instr.Instr.{Instr}
use Rattle.clause_model.specs.Clauses.{codes_of}
use Rattle.window_exec.specs.State.{Seen}
use Rattle.fingerprints.specs.Seeded.{seeded_states}
use Rattle.rule_table.specs.Header.{Header}
use Rattle.rule_table.specs.Table.{Opened, Rule, Family, Table}
use Rattle.lrat_check.specs.Proofs.{Tests, Then, InTurn, ProofVerdict, IsSpentLog}
use Rattle.table_audit.specs.declared.errors.EntryFault.TheVariants.{Sides, Proof, Unfinished, Untold, Open}
use Rattle.table_audit.specs.declared.errors.AuditError.{AuditError}
use Rattle.table_audit.specs.declared.errors.FamilyKind.TheVariants as family
use Rattle.table_audit.specs.declared.errors.AuditError.TheVariants.{States, Wide, Entry}
use Rattle.table_audit.specs.declared.errors.AuditError.TheVariants as error
use Rattle.table_audit.specs.Shorter.{SidesFit, with_scratch, formula_against, formula_of, sequences_below, weight_in, IsBelow, IsTold, is_named}
use Rattle.table_audit.specs.Families.{entry_of, IsRaisable, raised_formula}

-- ---- the table ----

-- each state of the seed stands at its place
abbrev pub StateTest : Table → ℕ → Seen → Option AuditError → Type 0
StateTest t n s = Tests (slice_get t.states n ≡ Some s) (States (n + 1))

abbrev pub StatesVerdict : Table → Option AuditError → Type 0
StatesVerdict t = InTurn (StateTest t) 0 (seeded_states t.header.seed)

-- sequences that an entry may have to be told from have fewer instructions than this, where left sides have at most `left`: with costs they may be as long
abbrev pub lengths_below : Option (List ℕ) → ℕ → ℕ
lengths_below None left = left
lengths_below (Some costs) left = left + 1

-- the most sequences that an entry of an accepted table may have to be told from
abbrev pub widest : ℕ
widest = 5000000

-- how many sequences an entry of a table may have to be told from, at most
abbrev pub width_of : Header → ℕ
width_of h = length (sequences_below (with_scratch h h.regs) h.pool (lengths_below h.costs h.left))

abbrev pub width : Table → ℕ
width t = width_of t.header

abbrev pub WideVerdict : Table → Option AuditError → Type 0
WideVerdict t = Tests (width t ≤ widest) (Wide (width t))

-- ---- an entry, which has this number ----

abbrev pub SidesVerdict : Table → ℕ → Rule → Option AuditError → Type 0
SidesVerdict t n e = Tests (SidesFit t e) (Entry n Sides)

-- the proof shows that no state tells the sides apart: its first line that isn't accepted, or that there is no empty clause
abbrev pub EntryProofVerdict : Table → ℕ → Rule → Option AuditError → Type 0
EntryProofVerdict t n e = ProofVerdict (λ line. Entry n (Proof line)) (Entry n Unfinished) (codes_of (formula_of t.header e).clauses) e.proof

-- the sequence of a number is below the right side, isn't named open, and no state tells it from the left side
pub record IsUntold (t : Table) (e : Rule) (number : ℕ) (seq : List Instr) : Type 0 where
  pub below : IsBelow t.header e.left e.right number seq
  pub unnamed : is_named e.opens number ≡ false
  pub untold : IsTold t.states e.left seq e.mask → ⊥

-- the sequence of this number is the first untold one by weight, then by number
pub record IsFirstUntold (t : Table) (e : Rule) (number : ℕ) : Type 0 where
  pub seq : List Instr
  pub is : IsUntold t e number seq
  pub first : (q : ℕ) (other : List Instr) → IsUntold t e q other → (weight_in t.header seq < weight_in t.header other) ⊎ ((weight_in t.header seq ≡ weight_in t.header other) × (number ≤ q))

-- each sequence below the right side is named open, or some state tells it from the left side
abbrev pub ToldVerdict : Table → ℕ → Rule → Option AuditError → Type 0
ToldVerdict t n e None = (q : ℕ) (seq : List Instr) → IsUntold t e q seq → ⊥
ToldVerdict t n e (Some fault) = (number : ℕ) × (IsFirstUntold t e number × (fault ≡ Entry n (Untold number)))

-- an open number is that of a sequence below the right side, which no state tells from the left side, and its log spends the budget on the formula of the two
pub record IsRightlyOpen (t : Table) (e : Rule) (o : Opened) : Type 0 where
  pub seq : List Instr
  pub below : IsBelow t.header e.left e.right o.number seq
  pub untold : IsTold t.states e.left seq e.mask → ⊥
  pub spent : IsSpentLog t.header.budget (codes_of (formula_against t.header e seq).clauses) o.log

abbrev pub OpenTest : Table → ℕ → Rule → ℕ → Opened → Option AuditError → Type 0
OpenTest t n e i o = Tests (IsRightlyOpen t e o) (Entry n (Open o.number))

abbrev pub OpensVerdict : Table → ℕ → Rule → Option AuditError → Type 0
OpensVerdict t n e = InTurn (OpenTest t n e) 0 e.opens

unfoldable pub EntryVerdict : Table → ℕ → Rule → Option AuditError → Type 0
EntryVerdict t n e = Then (SidesVerdict t n e) (Then (EntryProofVerdict t n e) (Then (ToldVerdict t n e) (OpensVerdict t n e)))

-- ---- a family, which has this number ----

abbrev pub SymbolVerdict : Table → ℕ → Family → Rule → Option AuditError → Type 0
SymbolVerdict t n f e = Tests (IsRaisable t.header.pool f e.left) (error.Family n family.Symbol)

-- the proof shows that no state and no value tell the sides apart
abbrev pub FamilyProofVerdict : Table → ℕ → Family → Rule → Option AuditError → Type 0
FamilyProofVerdict t n f e = ProofVerdict (λ line. error.Family n (family.Proof line)) (error.Family n family.Unfinished) (codes_of (raised_formula t.header f e).clauses) f.proof

-- a family of no entry is refused
abbrev pub RaisedVerdict : Table → ℕ → Family → Option Rule → Option AuditError → Type 0
RaisedVerdict t n f None = λ o. o ≡ Some (error.Family n family.Symbol)
RaisedVerdict t n f (Some e) = Then (SymbolVerdict t n f e) (FamilyProofVerdict t n f e)

unfoldable pub FamilyVerdict : Table → ℕ → Family → Option AuditError → Type 0
FamilyVerdict t n f = RaisedVerdict t n f (entry_of t f)

-- ---- all ----

abbrev pub EntriesVerdict : Table → Option AuditError → Type 0
EntriesVerdict t = InTurn (EntryVerdict t) 1 t.rules

abbrev pub FamiliesVerdict : Table → Option AuditError → Type 0
FamiliesVerdict t = InTurn (FamilyVerdict t) 1 t.families

-- the first cause for which the table is refused, or none
abbrev pub TableVerdict : Table → Option AuditError → Type 0
TableVerdict t = Then (StatesVerdict t) (Then (WideVerdict t) (Then (EntriesVerdict t) (FamiliesVerdict t)))

abbrev pub IsAccepted : Table → Type 0
IsAccepted t = TableVerdict t None
