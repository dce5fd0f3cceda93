-- Where a run is after an act, of a listing or of an image: in the state that the model's act leads to.
use Rattle.std.proofs.Common.{◌≡◌, ℕ, ◌∙◌, List, [], ◌∷◌, ◌++◌, Some, sym, ap, subst, append_assoc}
use Rattle.thumb_machine.specs.declared.answers.Answer.{Answer}
use Rattle.thumb_machine.specs.declared.world.World.{World}
use Rattle.thumb_machine.specs.declared.world.End.{End}
use Rattle.thumb_machine.specs.declared.world.Continuation.{Continuation}
use Rattle.thumb_machine.specs.declared.world.Continuation.TheVariants as next
use Rattle.thumb_machine.specs.declared.position.Position.{Position}
use Rattle.thumb_machine.specs.declared.position.Position.TheVariants as at
use Rattle.thumb_machine.specs.declared.position.Stage.{Stage}
use Rattle.thumb_machine.specs.Outside.{events_of}
use Rattle.thumb_machine.specs.Acting.{next_of, Acted, EndsBy}
use Rattle.thumb_machine.specs.Positions.{EndedBy, IsStage, LeadsTo, Stands, at_of, state_of}
use Rattle.thumb_model.specs.States.{Act, State}
use Rattle.thumb_model.specs.Steps.{arrives, does}
use Rattle.thumb_model.specs.States as model

-- where a run is over after an instruction, the last event says how it ended
pub ended_by : (n : Continuation) (old new : Position) (p following : ℕ) (before es all : List model.Event) → old ≡ at.Here p → at_of new ≡ arrives p following (next_of n) → LeadsTo n new → EndsBy n es → all ≡ before ++ es → EndedBy old new all
ended_by n old (at.Here q) p following before es all here arrived leads ends told = tt
ended_by next.On old (at.Ended e) p following before es all here arrived leads ends told = absurd (cc)
ended_by next.Stay old (at.Ended e) p following before es all here arrived leads ends told = absurd (cc)
ended_by (next.To q) old (at.Ended e) p following before es all here arrived leads ends told = absurd (cc)
ended_by (next.Over d) old (at.Ended e) p following before es all here arrived leads ends told =
    let same : e ≡ d = cc in
    let split : all ≡ (before ++ ends.0) ++ ends.1 ∷ [] = told ∙ ap (λ l. before ++ l) ends.2 ∙ sym (append_assoc before ends.0 (ends.1 ∷ [])) in
    subst (λ (o : Position). EndedBy o (at.Ended e) all) (sym here) (before ++ ends.0, ends.1, split, ends.3 ∙ ap (λ (x : End). Some x) (sym same))

-- what the contracts say of a step that does an act, from one world and position to others
pub record Done (p following : ℕ) (a : Act) (n : Continuation) (old : World) (from : Position) (new : World) (to : Position) (left : List Answer) (s : Stage) : Type 0 where
  pub here : from ≡ at.Here p
  pub acted : Acted a old new left n
  pub at : at_of to ≡ arrives p following (next_of n)
  pub stage : IsStage s (next_of n) to
  pub leads : LeadsTo n to

-- the step led to a state of the model, and the stage and the last event say so
pub record Led (t : State) (next : model.Continuation) (from : Position) (new : World) (to : Position) (left : List Answer) (s : Stage) : Type 0 where
  pub stands : Stands t new to left
  pub stage : IsStage s next to
  pub ends : EndedBy from to (events_of new.events.items)

pub act_led : (p following : ℕ) (a : Act) (n : Continuation) (old : World) (from : Position) (before : List Answer) (new : World) (to : Position) (left : List Answer) (s : Stage)
    → Done p following a n old from new to left s → Led (does p following a (state_of old from before)) a.next from new to left s
act_led p following a n old from before new to left s d = record {
  stands = record {
    values = d.acted.changed.registers;
    memory = d.acted.changed.memory;
    answers = d.acted.answers;
    at = d.at ∙ ap (λ (x : model.Continuation). arrives p following x) d.acted.next;
    events = d.acted.changed.events;
  };
  stage = subst (λ (x : model.Continuation). IsStage s x to) d.acted.next d.stage;
  ends = ended_by n from to p following (events_of old.events.items) a.events (events_of new.events.items) d.here d.at d.leads d.acted.ends d.acted.changed.events;
}
