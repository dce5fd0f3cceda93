-- When the machine's instruction did what the model's act says: its world, answers and events map to the model's.
use Rattle.std.specs.Prelude.{◌≡◌, ℕ, List, [], ◌∷◌, ◌++◌, Some, Result, Ok, Err}
use Rattle.thumb_machine.specs.declared.answers.Answer.{Answer}
use Rattle.thumb_machine.specs.declared.world.World.{World}
use Rattle.thumb_machine.specs.declared.world.Continuation.{Continuation}
use Rattle.thumb_machine.specs.declared.world.Continuation.TheVariants as next
use Rattle.thumb_machine.specs.declared.world.Target.{Target}
use Rattle.thumb_machine.specs.declared.world.Target.TheVariants as target
use Rattle.thumb_machine.specs.declared.world.Landing.{Landing}
use Rattle.thumb_machine.specs.declared.world.Landing.TheVariants as landing
use Rattle.thumb_machine.specs.declared.world.Around.{Around}
use Rattle.thumb_machine.specs.Registers.{values_of}
use Rattle.thumb_machine.specs.Memory.{memory_of}
use Rattle.thumb_machine.specs.Outside.{events_of, answers_of}
use Rattle.thumb_machine.specs.Stages.{end_of}
use Rattle.thumb_model.specs.Effect.{assigned}
use Rattle.thumb_model.specs.States.{Act}
use Rattle.thumb_model.specs.States as model

-- ---- the model's value of each of the machine's types ----

abbrev pub world_of : World → List Answer → model.World
world_of w left = record { values = values_of w.registers; memory = memory_of w.memory; answers = answers_of left }

abbrev pub next_of : Continuation → model.Continuation
next_of next.On = model.On
next_of next.Stay = model.Stay
next_of (next.To p) = model.To p
next_of (next.Over e) = model.Over

abbrev pub target_of : Target → model.Target
target_of (target.Inside p) = model.Inside p
target_of (target.External word) = model.External word

abbrev pub landing_of : Landing → model.Landing
landing_of (landing.Goes p) = model.Goes p
landing_of landing.Leaves = model.Leaves
landing_of landing.Strays = model.Strays

abbrev pub around_of : Around → (ℕ → model.Landing) → model.Around
around_of a lands = record { target = target_of a.target; literal = a.literal; link = a.link; lands = lands }

-- where the run is over, the last event says how it ended
abbrev pub EndsBy : Continuation → List model.Event → Type 0
EndsBy next.On es = Unit {0}
EndsBy next.Stay es = Unit {0}
EndsBy (next.To p) es = Unit {0}
EndsBy (next.Over e) es = (front : List model.Event) × (last : model.Event) × (es ≡ front ++ last ∷ []) × (end_of last ≡ Some e)

-- ---- acts ----

-- these items got these values, the memory is now `bytes`, and these events were added
pub record Changed (os : List (ℕ × ℕ)) (bytes : ℕ → ℕ) (es : List model.Event) (old new : World) : Type 0 where
  pub registers : values_of new.registers ≡ assigned os (values_of old.registers)
  pub memory : memory_of new.memory ≡ bytes
  pub events : events_of new.events.items ≡ events_of old.events.items ++ es

-- nothing changed
pub record Unchanged (old new : World) : Type 0 where
  pub registers : values_of new.registers ≡ values_of old.registers
  pub memory : memory_of new.memory ≡ memory_of old.memory
  pub events : events_of new.events.items ≡ events_of old.events.items

-- the act was done, and the answers that are left are the act's
pub record Acted (act : Act) (old new : World) (left : List Answer) (n : Continuation) : Type 0 where
  pub changed : Changed act.outputs act.memory act.events old new
  pub answers : answers_of left ≡ act.answers
  pub next : next_of n ≡ act.next
  pub ends : EndsBy n act.events

-- nothing changed and no answer was taken
pub record Refused (old new : World) (before left : List Answer) : Type 0 where
  pub kept : Unchanged old new
  pub answers : left ≡ before

-- the change was made, or nothing changed for want of memory
abbrev pub Changes : {T E : Type 0} → List (ℕ × ℕ) → (ℕ → ℕ) → List model.Event → World → World → Result T E → Type 0
Changes os bytes es old new (Ok t) = Changed os bytes es old new
Changes os bytes es old new (Err e) = Unchanged old new

-- the model's act on the world was done, or nothing changed for want of memory
abbrev pub Acts : {E : Type 0} → (model.World → Act) → World → List Answer → World → List Answer → Result Continuation E → Type 0
Acts act old before new left (Ok n) = Acted (act (world_of old before)) old new left n
Acts act old before new left (Err e) = Refused old new before left
