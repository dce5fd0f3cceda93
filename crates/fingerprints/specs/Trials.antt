-- Trials: the listed states, each with the state that the left side leaves of it.
use Rattle.std.specs.Prelude.{◌≡◌, List, All, map}
use Rattle.thumb_instr.specs.declared.instr.Instr.{Instr}
use Rattle.thumb_model.specs.Effect.{after_all}
use Rattle.window_exec.specs.State.{values_of, seen, Seen}
use Rattle.fingerprints.specs.declared.trials.Trial.{Trial}

abbrev pub start_of : Trial → Seen
start_of t = seen t.start

-- the trials begin at the states, and each ends where the left side does
pub record AreTrials (left : List Instr) (states : List Seen) (trials : List Trial) : Type 0 where
  pub starts : map start_of trials ≡ states
  pub ends : All (λ t. values_of t.end ≡ after_all left (values_of t.start)) trials
