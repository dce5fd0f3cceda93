-- The invariant of the search for a window's right side: which candidates were tried, and what was found.
use Rattle.std.specs.Prelude.{ℕ, ◌≡◌, ◌≤◌, ◌⊎◌, ◌+◌, ◌*◌, ◌++◌, Bool, true, false, List, [], ◌∷◌, Contains, Some, is_some, length, nat_lt, slice_get, take, if◌then◌else◌}
use Rattle.std.specs.List.{All}
use Rattle.thumb_instr.specs.declared.instr.Instr.{Instr}
use Rattle.seq_enum.specs.Alphabet.{ascends_from, alphabet}
use Rattle.window_exec.specs.State.{Seen}
use Rattle.lrat_check.specs.Text.{IsLine}
use Rattle.rule_table.specs.Table.{Opened, numbers_of, IsState}
use Rattle.cnf_gates.specs.Cnf.{Cnf}
use Rattle.bit_blast.specs.Differences.{sides_formula}
use Rattle.table_audit.specs.Shorter.{alphabet_registers, IsBelow, sequences_below, below_at, is_named}
use Rattle.table_audit.specs.Acceptance.{lengths_below}
use Rattle.table_learn.specs.Learnt.{Settings, Window, TellsFirst, IsSpentSearch}
use Rattle.table_learn.specs.Orders.{AreInOrder, weight_at}
use Rattle.table_learn.specs.Tellings.{told}

-- how many sequences are no longer than one below the window may be
abbrev pub width_at : Settings → Window → ℕ
width_at s w = length (sequences_below (alphabet_registers s w.seq) s.pool (lengths_below s.costs (length w.seq)))

-- the formula that a window and a sequence differ
abbrev pub formula_for : Settings → Window → List Instr → Cnf
formula_for s w seq = sides_formula w.seq seq w.mask (alphabet_registers s w.seq)

-- the weight of the sequence with this number, in the alphabet of a window
abbrev pub weight_against : Settings → Window → ℕ → ℕ
weight_against s w number = weight_at s.costs (alphabet (alphabet_registers s w.seq) s.pool) number

-- the number is that of a sequence below a window
abbrev pub IsCandidate : Settings → Window → ℕ → Type 0
IsCandidate s w number = (seq : List Instr) × IsBelow s w.seq w.seq number seq

-- the numbers, by weight and then by number, of sequences below a window; each such sequence is there, or one of the states distinguishes it
pub record AreCandidates (s : Settings) (states : List Seen) (w : Window) (numbers : List ℕ) : Type 0 where
  pub ordered : AreInOrder (weight_against s w) numbers
  pub few : length numbers ≤ width_at s w
  pub each : All (IsCandidate s w) numbers
  pub others : (q : ℕ) (seq : List Instr) → IsBelow s w.seq w.seq q seq → Contains numbers q ⊎ (told states w.seq seq w.mask ≡ true)

-- an open number: none of the states that were known before the search distinguishes its sequence, and its log is the solver's
pub record IsOpenNumber (s : Settings) (w : Window) (old : List Seen) (o : Opened) : Type 0 where
  pub seq : List Instr
  pub below : IsBelow s w.seq w.seq o.number seq
  pub untold : told old w.seq seq w.mask ≡ false
  pub log : IsSpentSearch s.budget (formula_for s w seq) o.log
  pub lines : All IsLine o.log

-- the states are the known ones and some more after them
pub record IsGrown (old states : List Seen) : Type 0 where
  pub more : List Seen
  pub grown : states ≡ old ++ more
  pub valid : All IsState more

-- each state from an index on distinguishes a sequence below the window that no earlier state does
abbrev pub EarnedFrom : Settings → ℕ → List Seen → Window → Type 0
EarnedFrom s from states w = (i : ℕ) (x : Seen) → from ≤ i → slice_get states i ≡ Some x → TellsFirst s (take i states) x w

-- of the candidates, those that were tried are distinguished by a state or left open; the others are still to come
pub record IsSearching (s : Settings) (w : Window) (old states : List Seen) (opens : List Opened) (passed rest : List ℕ) : Type 0 where
  pub growth : IsGrown old states
  pub settles : (q : ℕ) (seq : List Instr) → Contains passed q → IsBelow s w.seq w.seq q seq → (is_named opens q ≡ true) ⊎ (told states w.seq seq w.mask ≡ true)
  pub names : (i : ℕ) (o : Opened) → slice_get opens i ≡ Some o → Contains passed o.number × IsOpenNumber s w old o
  pub ascending : ascends_from 0 (numbers_of opens) ≡ true
  pub ordered : AreInOrder (weight_against s w) (passed ++ rest)
  pub earned : EarnedFrom s (length old) states w

-- open numbers in ascending order, with one more inserted
abbrev pub put_in : Opened → List Opened → List Opened
put_in o [] = o ∷ []
put_in o (x ∷ opens) = if nat_lt x.number o.number then x ∷ put_in o opens else o ∷ x ∷ opens

-- whether the sequence of an open number is below a right side
abbrev pub is_below : Settings → (left right : List Instr) → Opened → Bool
is_below s left right o = is_some (below_at s left right o.number)

-- the most steps of trying one sequence: the runs of it and of the window on the states, and the solver's search
abbrev pub query_cost : ℕ → ℕ → ℕ → ℕ
query_cost budget states left = states * (left + left) + (budget + 1) * 200001
