-- The image that a machine holds, and that its step is the model's step in that image.
use Rattle.std.specs.Prelude.{List, Result, Ok, Err}
use Rattle.thumb_machine.specs.declared.answers.Answer.{Answer}
use Rattle.thumb_machine.specs.declared.position.Stage.{Stage}
use Rattle.thumb_machine.specs.Outside.{events_of}
use Rattle.thumb_machine.specs.Positions.{EndedBy, IsStage, Stands, state_of}
use Rattle.thumb_model.specs.States.{Continuation, State}
use Rattle.thumb_assembler.specs.declared.image.Image.{Image}
use Rattle.thumb_assembler.specs.declared.machine.ImageMachine.{ImageMachine}
use Rattle.thumb_assembler.specs.Runs.{Loaded, ImageStep}

abbrev pub loaded_of : Image → Loaded
loaded_of m = record { base = m.base; bytes = m.bytes.items; high = m.high }

-- a step of the image was taken: the machine is in the state that it leads to, the stage reports how the run goes on, and the last event how it ended
pub record Stepped (old : ImageMachine) (before : List Answer) (new : ImageMachine) (left : List Answer) (s : Stage) : Type 0 where
  pub next : Continuation
  pub state : State
  pub step : ImageStep (loaded_of old.image) (state_of old.world old.at before) next state
  pub stands : Stands state new.world new.at left
  pub stage : IsStage s next new.at
  pub ends : EndedBy old.at new.at (events_of new.world.events.items)

-- a step as the model defines it, or no change if memory runs out
abbrev pub Steps : {E : Type 0} → ImageMachine → List Answer → ImageMachine → List Answer → Result Stage E → Type 0
Steps old before new left (Ok s) = Stepped old before new left s
Steps old before new left (Err e) = Stands (state_of old.world old.at before) new.world new.at left
