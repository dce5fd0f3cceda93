-- When a machine holds a listing's program, and that its step is the model's step.
use Rattle.std.specs.Prelude.{◌≡◌, ℕ, List, take, nat_eq, Option, Some, None, Result, Ok, Err, slice_get}
use Rattle.std.specs.HashMap.{get}
use Rattle.thumb_machine.specs.declared.answers.Answer.{Answer}
use Rattle.thumb_machine.specs.declared.program.PlaceContents.{PlaceContents}
use Rattle.thumb_machine.specs.declared.program.PlaceContents.TheVariants as contents
use Rattle.thumb_machine.specs.declared.program.Program.{Program}
use Rattle.thumb_machine.specs.declared.position.Stage.{Stage}
use Rattle.thumb_machine.specs.declared.machine.Machine.{Machine}
use Rattle.thumb_machine.specs.Outside.{events_of}
use Rattle.thumb_machine.specs.Acting.{target_of}
use Rattle.thumb_machine.specs.Positions.{EndedBy, IsStage, Stands, at_of, state_of}
use Rattle.thumb_machine.specs.Stages.{next_at}
use Rattle.thumb_model.specs.Listing.{Code, Place, Op, Word, call_count}
use Rattle.thumb_model.specs.Naming.{Naming, points}
use Rattle.thumb_model.specs.Steps.{aim_of, literal_at, point_among, step, target_at}
use Rattle.thumb_model.specs.States as model
use Rattle.thumb_model.specs.Steps as model_steps

-- ---- programs ----

-- the row of a place holds what the listing says there; there is no row past the last place
abbrev pub IsPlaceContents : Naming → Code → ℕ → Option Place → Option PlaceContents → Type 0
IsPlaceContents names code p None None = Unit {0}
IsPlaceContents names code p (Some (Word v)) (Some contents.Data) = Unit {0}
IsPlaceContents names code p (Some (Op i mention)) (Some (contents.Instruction j around)) =
    (j ≡ i) × (target_of around.target ≡ target_at names mention (aim_of code mention)) × (around.literal ≡ literal_at names code i mention)
    × (around.link ≡ names.return_word (call_count (take p code.places)))
IsPlaceContents names code p None (Some r) = ⊥
IsPlaceContents names code p (Some x) None = ⊥
IsPlaceContents names code p (Some (Word v)) (Some (contents.Instruction j around)) = ⊥
IsPlaceContents names code p (Some (Op i mention)) (Some contents.Data) = ⊥

-- the least place of the code points that have the word
abbrev pub point_of : Program → ℕ → Option ℕ
point_of program word = get nat_eq program.points word

-- where a program says that a word lands
abbrev pub lands_in : Program → ℕ → model.Landing
lands_in program word = model_steps.landing (record { word_of = λ name. 0; return_word = λ k. 0; low = program.low; high = program.high }) word (point_of program word)

-- a program holds what a naming and a listing say
pub record IsProgram (names : Naming) (code : Code) (program : Program) : Type 0 where
  pub rows : (p : ℕ) → IsPlaceContents names code p (slice_get code.places p) (slice_get program.rows.items p)
  pub points : (word : ℕ) → point_of program word ≡ point_among word (points names code)
  pub low : program.low ≡ names.low
  pub high : program.high ≡ names.high

-- ---- steps ----

-- the model's step was taken: the machine is in the state that it leads to, the stage reports how the run goes on, and the last event how it ended
pub record Stepped (names : Naming) (code : Code) (old : Machine) (before : List Answer) (new : Machine) (left : List Answer) (s : Stage) : Type 0 where
  pub stands : Stands (step names code (state_of old.world old.at before)) new.world new.at left
  pub stage : IsStage s (next_at names code (at_of old.at) (state_of old.world old.at before)) new.at
  pub ends : EndedBy old.at new.at (events_of new.world.events.items)

-- the model's step was taken, or nothing changed for want of memory
abbrev pub Steps : {E : Type 0} → Naming → Code → Machine → List Answer → Machine → List Answer → Result Stage E → Type 0
Steps names code old before new left (Ok s) = Stepped names code old before new left s
Steps names code old before new left (Err e) = Stands (state_of old.world old.at before) new.world new.at left
