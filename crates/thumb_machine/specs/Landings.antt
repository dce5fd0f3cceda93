-- The event that POP with pc adds, and where the run goes on, by where the loaded word lands.
use Rattle.std.specs.Prelude.{ℕ, List, [], ◌∷◌, map}
use Rattle.thumb_model.specs.Effect.{Values}
use Rattle.thumb_model.specs.States.{Event, Left, Astray, Landing, Goes, Leaves, Strays, Continuation, To, Over, registers_left}

abbrev pub landed_events : Landing → ℕ → Values → List Event
landed_events (Goes p) word v = []
landed_events Leaves word v = Left word (map v registers_left) ∷ []
landed_events Strays word v = Astray word ∷ []

abbrev pub landed_next : Landing → Continuation
landed_next (Goes p) = To p
landed_next Leaves = Over
landed_next Strays = Over
