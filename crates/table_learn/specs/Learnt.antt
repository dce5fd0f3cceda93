-- What a learnt table is: the learner's main theorem.
use Rattle.std.specs.Prelude.{ℕ, List, ◌≡◌, ◌<◌, ◌≤◌, ◌⊎◌, Some, All, Vec, length, map, slice_get, take}
use Rattle.ascii_scan.specs.Lines.{text_limit}
use Rattle.thumb_instr.specs.declared.instr.Instr.{Instr}
use Rattle.rule_table.specs.Header.{Header}
use Rattle.std.specs.Global.{Global}
use Rattle.window_exec.specs.State.{Tells, Seen}
use Rattle.cnf_gates.specs.Cnf.{Cnf}
use Rattle.lrat_check.specs.declared.line.Line.{Line}
use Rattle.lrat_check.specs.Text.{Content, content_of}
use Rattle.cdcl_core.specs.declared.solving.Verdict.TheVariants.{Unsat, Spent}
use Rattle.cdcl_core.specs.Solved.{VerdictOf}
use Rattle.rule_table.specs.Table.{Opened, Rule, Table, IsTable}
use Rattle.rule_table.specs.Text.{text_of}
use Rattle.table_audit.specs.Shorter.{formula_of, formula_against, IsBelow, IsTold, values_in}
use Rattle.table_audit.specs.Acceptance.{IsAccepted}

-- What a table is learnt from, and with which limits.

-- the settings are the header that the table gets
abbrev pub Settings : Type 0
Settings = Header

-- a window, and the items that may be live after it, as the bits of their numbers
pub record Window : Type 0 where
  pub seq : List Instr
  pub mask : ℕ

-- Tables that are learnt from windows.

-- ---- entries ----

-- the window that an entry was learnt from
abbrev pub learnt_from : Rule → Window
learnt_from e = record { seq = e.left; mask = e.mask }

-- the right side is the left side, or a sequence below it
abbrev pub KeepsOrLowers : Settings → Rule → Type 0
KeepsOrLowers s e = (e.right ≡ e.left) ⊎ ((number : ℕ) × IsBelow s e.left e.left number e.right)

-- the lines are the log by which the solver refutes a formula
pub record IsRefutation (budget : ℕ) (formula : Cnf) (lines : List Content) : Type 0 where
  pub log : Vec Line Global
  pub refutes : VerdictOf formula budget (Unsat log)
  pub says : map content_of log.items ≡ lines

-- the lines are the log of a search in which the solver spent its budget on a formula
pub record IsSpentSearch (budget : ℕ) (formula : Cnf) (lines : List Content) : Type 0 where
  pub log : Vec Line Global
  pub spends : VerdictOf formula budget (Spent log)
  pub says : map content_of log.items ≡ lines

-- the proof is the solver's refutation of the formula that the two sides differ
abbrev pub IsProvedBySolver : Settings → Rule → Type 0
IsProvedBySolver s e = IsRefutation s.budget (formula_of s e) e.proof

-- the log of an open number is that of the solver's search on the formula that the left side and the number's sequence differ
abbrev pub IsOpenBySolver : Settings → Rule → Opened → Type 0
IsOpenBySolver s e o = (seq : List Instr) → IsBelow s e.left e.right o.number seq → IsSpentSearch s.budget (formula_against s e seq) o.log

-- ---- states ----

-- a state distinguishes a window from a sequence below it, and no earlier state does
pub record TellsFirst (s : Settings) (before : List Seen) (x : Seen) (w : Window) : Type 0 where
  pub number : ℕ
  pub other : List Instr
  pub below : IsBelow s w.seq w.seq number other
  pub tells : Tells (values_in x) w.seq other w.mask
  pub first : IsTold before w.seq other w.mask → ⊥

-- the state does so for some window of the list
pub record IsEarned (s : Settings) (windows : List Window) (before : List Seen) (x : Seen) : Type 0 where
  pub place : ℕ
  pub window : Window
  pub is_window : slice_get windows place ≡ Some window
  pub found : TellsFirst s before x window

-- each state after the seed's 64 does so
abbrev pub AreEarned : Settings → List Window → List Seen → Type 0
AreEarned s windows states = (i : ℕ) (x : Seen) → 64 ≤ i → slice_get states i ≡ Some x → IsEarned s windows (take i states) x

-- ---- tables ----

-- the table's header is the settings; it has an entry for each window, in order, whose right side is the left side or below it; each state after the seed's
-- distinguishes something that no earlier one does; the audit accepts the table; proofs and logs are the solver's
pub record Learnt (s : Settings) (windows : List Window) (t : Table) : Type 0 where
  pub header : t.header ≡ s
  pub entries : map learnt_from t.rules ≡ windows
  pub rights : All (KeepsOrLowers t.header) t.rules
  pub states : AreEarned t.header windows t.states
  pub accepted : IsAccepted t
  pub proofs : All (IsProvedBySolver t.header) t.rules
  pub logs : All (λ e. All (IsOpenBySolver t.header e) e.opens) t.rules

-- ---- refusals ----

abbrev pub text_length : Table → ℕ
text_length t = length (text_of t)

-- the table of the first windows, at least one, is learnt and valid, but its text is too long
pub record IsFull (s : Settings) (windows : List Window) (t : Table) (bytes : ℕ) : Type 0 where
  pub count : ℕ
  pub some : 1 ≤ count
  pub within : count ≤ length windows
  pub learnt : Learnt s (take count windows) t
  pub valid : IsTable t
  pub is_length : bytes ≡ text_length t
  pub long : text_limit < bytes
