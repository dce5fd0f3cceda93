-- Which sequences remain after the first state: those that it doesn't tell from a left side, and how far the table grows to find them.
use Rattle.std.specs.Prelude.{ℕ, ◌≡◌, ◌<◌, ◌↔◌, true, List, [], ◌∷◌, Some, Contains, length, slice_get}
use Rattle.thumb_instr.specs.declared.instr.Instr.{Instr}
use Rattle.thumb_model.specs.Effect.{after_all}
use Rattle.window_exec.specs.declared.state.WState.{WState}
use Rattle.window_exec.specs.State.{values_of, Differ}
use Rattle.seq_enum.specs.Alphabet.{ascends_from}
use Rattle.fingerprints.specs.declared.trials.Trial.{Trial}
use Rattle.fingerprints.specs.Outcomes.{Extent, grown_to, added}

-- from the trial's state the sequence leaves another value than the left side in some item of the mask
abbrev pub TellsFrom : List Instr → ℕ → Trial → Type 0
TellsFrom seq mask t = Differ (values_of t.end) (after_all seq (values_of t.start)) mask

-- it does so from the first trial's state
abbrev pub FirstTells : List Instr → ℕ → List Trial → Type 0
FirstTells seq mask [] = ⊥
FirstTells seq mask (t ∷ ts) = TellsFrom seq mask t

-- the numbers, in ascending order, of just the sequences that the first trial doesn't tell
pub record AreCandidates (seqs : List (List Instr)) (trials : List Trial) (mask : ℕ) (numbers : List ℕ) : Type 0 where
  pub ascending : ascends_from 0 numbers ≡ true
  pub within : (q : ℕ) → Contains numbers q → q < length seqs
  pub each : (q : ℕ) (seq : List Instr) → slice_get seqs q ≡ Some seq → Contains numbers q ↔ (FirstTells seq mask trials → ⊥)

-- the first trial starts at this state
abbrev pub BeginsAt : WState → List Trial → Type 0
BeginsAt start [] = Unit {0}
BeginsAt start (t ∷ ts) = start ≡ t.start

-- the table grown to the candidates' length
abbrev pub grown_for : List Trial → ℕ → Extent → Extent
grown_for [] longest e = e
grown_for (t ∷ ts) longest e = grown_to longest e

-- how many sequences that adds
abbrev pub added_for : List Trial → ℕ → Extent → ℕ
added_for [] longest e = 0
added_for (t ∷ ts) longest e = added longest e
