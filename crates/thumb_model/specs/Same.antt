-- Observable equality of two listings: what the promise of each replacement says.
use Rattle.std.specs.Prelude.{◌≡◌, ℕ, ◌≤◌, Bool, true, false, List, Option, Some, None, IsSome}
use Rattle.thumb_model.specs.Listing.{Name, Code, place_of}
use Rattle.thumb_model.specs.Naming.{Naming, Fits}
use Rattle.thumb_model.specs.States.{World, IsWorld, State, Position, Here, Ended, Event}
use Rattle.thumb_model.specs.Steps.{step, times}

abbrev pub has_ended : Position → Bool
has_ended (Here p) = false
has_ended Ended = true

-- the observable parts of two states are the same
pub record Alike (s t : State) : Type 0 where
  pub events : s.events ≡ t.events
  pub memory : s.world.memory ≡ t.world.memory
  pub answers : s.world.answers ≡ t.world.answers
  pub ended : has_ended s.at ≡ has_ended t.at

abbrev pub here_or_ended : Option ℕ → Position
here_or_ended None = Ended
here_or_ended (Some p) = Here p

-- a run begun at a label
abbrev pub begun : Code → Name → World → List Event → State
begun code label w es = record { world = w; at = here_or_ended (place_of code label); events = es }

-- under every naming that fits, from every code label, world and events so far: each listing reaches what the other does, and b in no more steps than a
pub record Same (a b : Code) : Type 0 where
  pub sooner : (names : Naming) → Fits names a → (label : Name) → IsSome (place_of a label) → (w : World) → IsWorld w → (es : List Event) →
      (n : ℕ) → (m : ℕ) × (m ≤ n) × Alike (times (step names a) n (begun a label w es)) (times (step names b) m (begun b label w es))
  pub reached : (names : Naming) → Fits names a → (label : Name) → IsSome (place_of a label) → (w : World) → IsWorld w → (es : List Event) →
      (m : ℕ) → (n : ℕ) × (m ≤ n) × Alike (times (step names a) n (begun a label w es)) (times (step names b) m (begun b label w es))
