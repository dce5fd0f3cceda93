-- The machine's step at an instruction of an image is the model's step.
use Rattle.std.proofs.Common.{◌≡◌, ℕ, List, [], ◌∷◌, ◌++◌, Result, Ok, Err, refl, sym, ap, subst}
use Rattle.std.specs.Prelude.{IfOk, OnErr}
use Rattle.thumb_instr.specs.declared.instr.Instr.{Instr}
use Rattle.thumb_machine.specs.declared.answers.Answer.{Answer}
use Rattle.thumb_machine.specs.declared.world.Around.{Around}
use Rattle.thumb_machine.specs.declared.world.End.{End}
use Rattle.thumb_machine.specs.declared.world.End.TheVariants as end
use Rattle.thumb_machine.specs.declared.world.Continuation.{Continuation}
use Rattle.thumb_machine.specs.declared.position.Position.{Position}
use Rattle.thumb_machine.specs.declared.position.Position.TheVariants as at
use Rattle.thumb_machine.specs.declared.position.Stage.{Stage}
use Rattle.thumb_machine.specs.declared.position.Stage.TheVariants as stage
use Rattle.thumb_machine.specs.Stages.{stage_of}
use Rattle.thumb_machine.specs.Memory.{memory_of}
use Rattle.thumb_machine.specs.Outside.{events_of}
use Rattle.thumb_machine.specs.Acting.{around_of, target_of, world_of, Changed, Changes}
use Rattle.thumb_machine.specs.Positions.{EndedBy, IsStage, at_of, state_of}
use Rattle.thumb_machine.proofs.Arrivals.{Done, act_led}
use Rattle.thumb_model.specs.States.{Act, State}
use Rattle.thumb_model.specs.Acts.{act}
use Rattle.thumb_model.specs.Steps.{does, falls, set_bit}
use Rattle.thumb_model.specs.States as model
use Rattle.thumb_assembler.specs.declared.machine.ImageMachine.{ImageMachine}
use Rattle.thumb_assembler.specs.Machines.{Stepped, Steps, loaded_of}
use Rattle.thumb_assembler.specs.Runs.{Loaded, stays, acts, falls_out, IsFetched, act_in, around_in, following, literal_in, lands_at, target_in}

-- the surroundings of an instruction that the code computes are the model's
pub around_is : (m : Loaded) (a : ℕ) (i : Instr) (around : Around) → target_of around.target ≡ target_in m a i → around.literal ≡ literal_in m a i → around.link ≡ set_bit (following a i) → around_of around (lands_at m) ≡ around_in m a i
around_is m a i around t l k = λ n. record { target = t n; literal = l n; link = k n; lands = lands_at m }

pub does_step : (old : ImageMachine) (before : List Answer) (a : ℕ) (i : Instr) (n : Continuation) (new : ImageMachine) (left : List Answer) (s : Stage) → IsFetched (loaded_of old.image) a i
    → Done a (following a i) (act (around_in (loaded_of old.image) a i) i (world_of old.world before)) n old.world old.at new.world new.at left s → Stepped old before new left s
does_step old before a i n new left s fetched d =
    let start : State = state_of old.world old.at before in
    let x : Act = act_in (loaded_of old.image) a i start in
    let led = act_led a (following a i) x n old.world old.at before new.world new.at left s d in
    record { next = x.next; state = does a (following a i) x start; step = acts a i (ap at_of d.here) fetched; stands = led.stands; stage = led.stage; ends = led.ends }

ends_again : (here : Position) (e : End) (es : List model.Event) → here ≡ at.Ended e → EndedBy here here es
ends_again (at.Ended d) e es h = refl
ends_again (at.Here a) e es h = absurd (cc)

stage_again : (here : Position) (e : End) (s : Stage) → here ≡ at.Ended e → s ≡ stage_of e → IsStage s model.Over here
stage_again here e s h t = subst (λ (x : Position). IsStage s model.Over x) (sym h) t

-- an ended machine stays ended
pub ended_step : (m : ImageMachine) (left : List Answer) (e : End) (s : Stage) → m.at ≡ at.Ended e → s ≡ stage_of e → Stepped m left m left s
ended_step m left e s h t = record {
  next = model.Over;
  state = state_of m.world m.at left;
  step = stays (ap at_of h);
  stands = record { values = refl; memory = refl; answers = refl; at = refl; events = refl };
  stage = stage_again m.at e s h t;
  ends = ends_again m.at e (events_of m.world.events.items) h;
}

fallen_at : (old new : Position) (a : ℕ) (es : List model.Event) → old ≡ at.Here a → new ≡ at.Ended end.Fell → EndedBy old new (es ++ (model.Fell ∷ []))
fallen_at old new a es h e = subst (λ (x : Position). EndedBy x new (es ++ (model.Fell ∷ []))) (sym h) (subst (λ (y : Position). EndedBy (at.Here a) y (es ++ (model.Fell ∷ []))) (sym e) (es, model.Fell, refl, refl))

-- where no instruction is fetched, the run falls out of the code
pub fall_step : (old new : ImageMachine) (left : List Answer) (a : ℕ) (s : Stage) → old.at ≡ at.Here a → ((i : Instr) → IsFetched (loaded_of old.image) a i → ⊥) → Changed [] (memory_of old.world.memory) (model.Fell ∷ []) old.world new.world → s ≡ stage.Fell
    → new.at ≡ at.Ended end.Fell → Stepped old left new left s
fall_step old new left a s h none c t e = record {
  next = model.Over;
  state = falls (state_of old.world old.at left);
  step = falls_out a (ap at_of h) none;
  stands = record { values = c.registers; memory = c.memory; answers = refl; at = ap at_of e; events = c.events };
  stage = stage_again new.at end.Fell s e t;
  ends = subst (λ (es : List model.Event). EndedBy old.at new.at es) (sym c.events) (fallen_at old.at new.at a (events_of old.world.events.items) h e);
}

-- the machine's step where no instruction is fetched
pub fall_steps : {E : Type 0} (old new : ImageMachine) (left : List Answer) (a : ℕ) (r : Result Stage E) → old.at ≡ at.Here a → ((i : Instr) → IsFetched (loaded_of old.image) a i → ⊥) → Changes [] (memory_of old.world.memory) (model.Fell ∷ []) old.world new.world r
    → IfOk r (λ s. (s ≡ stage.Fell) × (new.at ≡ at.Ended end.Fell)) → OnErr r (new.at ≡ old.at) → Steps old left new left r
fall_steps old new left a (Ok s) h none c t k = fall_step old new left a s h none c t.0 t.1
fall_steps old new left a (Err x) h none c t k = record { values = c.registers; memory = c.memory; answers = refl; at = ap at_of k; events = c.events }
