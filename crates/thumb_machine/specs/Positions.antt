-- The state of the model that a world and a position are in, and how a step ends: the same for runs of listings and of images.
use Rattle.std.specs.Prelude.{◌≡◌, List, [], ◌∷◌, ◌++◌, Some}
use Rattle.thumb_machine.specs.declared.answers.Answer.{Answer}
use Rattle.thumb_machine.specs.declared.world.World.{World}
use Rattle.thumb_machine.specs.declared.world.Continuation.{Continuation}
use Rattle.thumb_machine.specs.declared.world.Continuation.TheVariants as next
use Rattle.thumb_machine.specs.declared.position.Position.{Position}
use Rattle.thumb_machine.specs.declared.position.Position.TheVariants as at
use Rattle.thumb_machine.specs.declared.position.Stage.{Stage}
use Rattle.thumb_machine.specs.declared.position.Stage.TheVariants as stage
use Rattle.thumb_machine.specs.Registers.{values_of}
use Rattle.thumb_machine.specs.Memory.{memory_of}
use Rattle.thumb_machine.specs.Outside.{answers_of, events_of}
use Rattle.thumb_machine.specs.Acting.{world_of}
use Rattle.thumb_machine.specs.Stages.{end_of, stage_of}
use Rattle.thumb_model.specs.States.{State, Here, Ended}
use Rattle.thumb_model.specs.States as model

-- ---- states ----

abbrev pub at_of : Position → model.Position
at_of (at.Here p) = Here p
at_of (at.Ended e) = Ended

-- the state of a run, with the answers that are left
abbrev pub state_of : World → Position → List Answer → State
state_of world here left = record { world = world_of world left; at = at_of here; events = events_of world.events.items }

-- the world and the position, with the answers that are left, are the model's state s
pub record Stands (s : State) (world : World) (here : Position) (left : List Answer) : Type 0 where
  pub values : values_of world.registers ≡ s.world.values
  pub memory : memory_of world.memory ≡ s.world.memory
  pub answers : answers_of left ≡ s.world.answers
  pub at : at_of here ≡ s.at
  pub events : events_of world.events.items ≡ s.events

-- ---- steps ----

-- the stage reports how the run goes on, or at which end it now is
abbrev pub IsStage : Stage → model.Continuation → Position → Type 0
IsStage s model.On here = s ≡ stage.Going
IsStage s (model.To p) here = s ≡ stage.Going
IsStage s model.Stay here = s ≡ stage.Wants
IsStage s model.Over (at.Here p) = ⊥
IsStage s model.Over (at.Ended e) = s ≡ stage_of e

-- a run that is over is at that end
abbrev pub LeadsTo : Continuation → Position → Type 0
LeadsTo next.On here = Unit {0}
LeadsTo next.Stay here = Unit {0}
LeadsTo (next.To p) here = Unit {0}
LeadsTo (next.Over e) here = here ≡ at.Ended e

-- the last event says how a run ended that has ended just now
abbrev pub EndedBy : Position → Position → List model.Event → Type 0
EndedBy old (at.Here p) es = Unit {0}
EndedBy (at.Ended d) (at.Ended e) es = d ≡ e
EndedBy (at.Here p) (at.Ended e) es = (front : List model.Event) × (last : model.Event) × (es ≡ front ++ last ∷ []) × (end_of last ≡ Some e)
