-- Tables of the states that sequences leave, by columns.
use Rattle.std.specs.Prelude.{ℕ, zero, suc, ◌≡◌, ◌<◌, ◌≤◌, ◌+◌, ◌++◌, ◌∷◌, [], List, true, Some, if◌then◌else◌, get_or, length, map, nat_lt, slice_get, slice_index}
use Rattle.thumb_instr.specs.declared.instr.Instr.{Instr}
use Rattle.thumb_model.specs.Effect.{after_all}
use Rattle.window_exec.specs.declared.state.WState.{WState}
use Rattle.window_exec.specs.State.{values_of}
use Rattle.fingerprints.specs.declared.outcome_columns.Columns.{Columns}
use Rattle.fingerprints.specs.Print.{one_if}

-- the state at a place: a register without a column has the start state's word
abbrev pub outcome_at : Columns → WState → ℕ → WState
outcome_at c start i = record {
  r = get_or c.r0.items i (slice_index start.r 0) ∷ get_or c.r1.items i (slice_index start.r 1) ∷ get_or c.r2.items i (slice_index start.r 2) ∷ get_or c.r3.items i (slice_index start.r 3) ∷ [];
  nzcv = get_or c.flags.items i 0;
}

-- a sequence with each instruction appended
abbrev pub extended : List Instr → List Instr → List (List Instr)
extended alphabet seq = map (λ x. seq ++ x ∷ []) alphabet

-- the columns with one more state appended
pub record IsAfter (k : ℕ) (s : WState) (old new : Columns) : Type 0 where
  pub r0 : new.r0.items ≡ old.r0.items ++ one_if (nat_lt 0 k) (slice_index s.r 0)
  pub r1 : new.r1.items ≡ old.r1.items ++ one_if (nat_lt 1 k) (slice_index s.r 1)
  pub r2 : new.r2.items ≡ old.r2.items ++ one_if (nat_lt 2 k) (slice_index s.r 2)
  pub r3 : new.r3.items ≡ old.r3.items ++ one_if (nat_lt 3 k) (slice_index s.r 3)
  pub flags : new.flags.items ≡ old.flags.items ++ s.nzcv ∷ []

-- room for this many more states
pub record HaveRoom (k more : ℕ) (c : Columns) : Type 0 where
  pub r0 : nat_lt 0 k ≡ true → c.r0.len + more ≤ c.r0.cap
  pub r1 : nat_lt 1 k ≡ true → c.r1.len + more ≤ c.r1.cap
  pub r2 : nat_lt 2 k ≡ true → c.r2.len + more ≤ c.r2.cap
  pub r3 : nat_lt 3 k ≡ true → c.r3.len + more ≤ c.r3.cap
  pub flags : c.flags.len + more ≤ c.flags.cap

-- the length of a register's column: one word a state for each register below k, and none for the others
abbrev pub count_for : ℕ → ℕ → ℕ → ℕ
count_for register k count = if nat_lt register k then count else 0

-- the column of a register
abbrev pub column_of : Columns → ℕ → List ℕ
column_of c zero = c.r0.items
column_of c (suc zero) = c.r1.items
column_of c (suc (suc zero)) = c.r2.items
column_of c register = c.r3.items

-- each register below k has a word for each state, and the others have none
abbrev pub AreFull : ℕ → Columns → Type 0
AreFull k c = (register : ℕ) → register < 4 → length (column_of c register) ≡ count_for register k (length c.flags.items)

-- the columns hold what each of the sequences leaves of a state
pub record Holds (k : ℕ) (start : WState) (seqs : List (List Instr)) (c : Columns) : Type 0 where
  pub r0 : length c.r0.items ≡ count_for 0 k (length seqs)
  pub r1 : length c.r1.items ≡ count_for 1 k (length seqs)
  pub r2 : length c.r2.items ≡ count_for 2 k (length seqs)
  pub r3 : length c.r3.items ≡ count_for 3 k (length seqs)
  pub flags : length c.flags.items ≡ length seqs
  pub outcomes : (i : ℕ) (seq : List Instr) → slice_get seqs i ≡ Some seq → values_of (outcome_at c start i) ≡ after_all seq (values_of start)

-- the registers from r(k) on have the words of the start state
abbrev pub KeepsFrom : ℕ → WState → WState → Type 0
KeepsFrom k start s = (x : ℕ) → k ≤ x → x < 4 → values_of s x ≡ values_of start x
