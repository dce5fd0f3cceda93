-- What scans of columns find: the numbers of the states that agree with a given one under a mask.
use Rattle.std.specs.Prelude.{ℕ, ◌≡◌, ◌<◌, ◌↔◌, Bool, true, not, ◌==◌, ◌&&◌, ◌||◌, List, Contains, get_or}
use Rattle.std.specs.Int.{bit_at}
use Rattle.thumb_instr.specs.Items.{has}
use Rattle.window_exec.specs.declared.state.WState.{WState}
use Rattle.window_exec.specs.State.{values_of, Differ}
use Rattle.seq_enum.specs.Alphabet.{ascends_from}
use Rattle.fingerprints.specs.declared.outcome_columns.Columns.{Columns}
use Rattle.fingerprints.specs.OutcomeColumns.{outcome_at}

-- whether some flag of a mask differs
abbrev pub flags_differ : ℕ → ℕ → ℕ → Bool
flags_differ mask a b =
    (has mask 15 && not (bit_at a 3 == bit_at b 3)) || (has mask 16 && not (bit_at a 2 == bit_at b 2)) || (has mask 17 && not (bit_at a 1 == bit_at b 1)) || (has mask 18 && not (bit_at a 0 == bit_at b 0))

-- whether a column has the word; true where that isn't `wanted`
abbrev pub keeps_word : Bool → List ℕ → ℕ → ℕ → ℕ → Bool
keeps_word wanted column other word q = not wanted || (get_or column q other == word)

-- the state at a number agrees with `end` in each item of a mask
abbrev pub IsLike : Columns → WState → WState → ℕ → ℕ → Type 0
IsLike c start end mask q = Differ (values_of (outcome_at c start q)) (values_of end) mask → ⊥

-- ascending numbers below a limit, among them each with the property
pub record AreAmong (P : ℕ → Type 0) (limit : ℕ) (numbers : List ℕ) : Type 0 where
  pub ascending : ascends_from 0 numbers ≡ true
  pub within : (q : ℕ) → Contains numbers q → q < limit
  pub each : (q : ℕ) → q < limit → P q → Contains numbers q

-- the ascending numbers below a limit that have the property, and no others
pub record AreThose (P : ℕ → Type 0) (limit : ℕ) (numbers : List ℕ) : Type 0 where
  pub ascending : ascends_from 0 numbers ≡ true
  pub such : (q : ℕ) → Contains numbers q ↔ (q < limit) × P q
