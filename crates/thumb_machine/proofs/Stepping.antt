-- A step of the machine at a row of its program is the model's step.
use Rattle.std.proofs.Common.{◌≡◌, ℕ, ◌+◌, ◌∙◌, List, Option, Some, None, refl, sym, ap, subst}
use Rattle.std.specs.Prelude.{slice_get}
use mathlib.Core.Path.{fun_ext}
use Rattle.thumb_instr.specs.declared.instr.Instr.{Instr}
use Rattle.thumb_machine.specs.declared.answers.Answer.{Answer}
use Rattle.thumb_machine.specs.declared.world.Around.{Around}
use Rattle.thumb_machine.specs.declared.world.Continuation.{Continuation}
use Rattle.thumb_machine.specs.declared.program.PlaceContents.TheVariants as contents
use Rattle.thumb_machine.specs.declared.program.Program.{Program}
use Rattle.thumb_machine.specs.declared.position.Stage.{Stage}
use Rattle.thumb_machine.specs.declared.machine.Machine.{Machine}
use Rattle.thumb_machine.specs.Acting.{around_of, world_of}
use Rattle.thumb_machine.specs.Positions.{IsStage, Stands, at_of, state_of}
use Rattle.thumb_machine.specs.Running.{IsProgram, IsPlaceContents, Stepped, lands_in}
use Rattle.thumb_machine.specs.Stages.{next_at, next_on}
use Rattle.thumb_model.specs.Listing.{Code, Mention, Place, Op, Word}
use Rattle.thumb_model.specs.Naming.{Naming, points}
use Rattle.thumb_model.specs.States.{Act, State}
use Rattle.thumb_model.specs.Acts.{act}
use Rattle.thumb_model.specs.Steps.{does, landing, point_among, step, step_at, step_on}
use Rattle.thumb_model.specs.States as model
use Rattle.thumb_model.specs.Steps as model_steps
use Rattle.thumb_machine.proofs.Arrivals.{Done, act_led}

same_landing : (names : Naming) (word : ℕ) (o : Option ℕ) → landing (record { word_of = λ name. 0; return_word = λ k. 0; low = names.low; high = names.high }) word o ≡ landing names word o
same_landing names word None = refl
same_landing names word (Some p) = refl

-- a program lands as its naming and its listing say
same_lands : (names : Naming) (code : Code) (program : Program) → IsProgram names code program → (word : ℕ) → lands_in program word ≡ landing names word (point_among word (points names code))
same_lands names code program is word =
    ap (λ (o : Option ℕ). landing (record { word_of = λ name. 0; return_word = λ k. 0; low = program.low; high = program.high }) word o) (is.points word)
    ∙ ap (λ (l : ℕ). landing (record { word_of = λ name. 0; return_word = λ k. 0; low = l; high = program.high }) word (point_among word (points names code))) is.low
    ∙ ap (λ (h : ℕ). landing (record { word_of = λ name. 0; return_word = λ k. 0; low = names.low; high = h }) word (point_among word (points names code))) is.high
    ∙ same_landing names word (point_among word (points names code))

same_around : (a b : model.Around) → a.target ≡ b.target → a.literal ≡ b.literal → a.link ≡ b.link → ((w : ℕ) → a.lands w ≡ b.lands w) → a ≡ b
same_around a b t l k f = let e : a.lands ≡ b.lands = fun_ext f in λ i. record { target = t i; literal = l i; link = k i; lands = e i }

-- a step that does an act is the model's step, where the model's step does that act
does_step : (names : Naming) (code : Code) (old : Machine) (before : List Answer) (p : ℕ) (i : Instr) (m : Option Mention) (n : Continuation) (new : Machine) (left : List Answer) (s : Stage) → slice_get code.places p ≡ Some (Op i m)
    → Done p (p + 1) (act (model_steps.around_of names code p i m) i (world_of old.world before)) n old.world old.at new.world new.at left s → Stepped names code old before new left s
does_step names code old before p i m n new left s is d =
    let start : State = state_of old.world old.at before in
    let a : Act = act (model_steps.around_of names code p i m) i (world_of old.world before) in
    let here : at_of old.at ≡ model.Here p = ap at_of d.here in
    let steps : step names code start ≡ does p (p + 1) a start = ap (λ (x : model.Position). step_at names code x start) here ∙ ap (λ (x : Option Place). step_on names code p x start) is in
    let goes : next_at names code (at_of old.at) start ≡ a.next = ap (λ (x : model.Position). next_at names code x start) here ∙ ap (λ (x : Option Place). next_on names code p x start) is in
    let led = act_led p (p + 1) a n old.world old.at before new.world new.at left s d in
    record {
      stands = subst (λ (x : State). Stands x new.world new.at left) (sym steps) led.stands;
      stage = subst (λ (x : model.Continuation). IsStage s x new.at) (sym goes) led.stage;
      ends = led.ends;
    }

pub row_steps : (names : Naming) (code : Code) (old : Machine) (before : List Answer) (p : ℕ) (x : Option Place) (j : Instr) (around : Around) (n : Continuation) (new : Machine) (left : List Answer) (s : Stage)
    → IsProgram names code old.program → slice_get code.places p ≡ x → IsPlaceContents names code p x (Some (contents.Instruction j around))
    → Done p (p + 1) (act (around_of around (lands_in old.program)) j (world_of old.world before)) n old.world old.at new.world new.at left s → Stepped names code old before new left s
row_steps names code old before p None j around n new left s is at_p r d = absurd r
row_steps names code old before p (Some (Word v)) j around n new left s is at_p r d = absurd r
row_steps names code old before p (Some (Op i m)) j around n new left s is at_p r d =
    let w : model.World = world_of old.world before in
    let here : around_of around (lands_in old.program) ≡ model_steps.around_of names code p i m =
    same_around (around_of around (lands_in old.program)) (model_steps.around_of names code p i m) r.1 r.2 r.3 (same_lands names code old.program is) in
    let e : act (around_of around (lands_in old.program)) j w ≡ act (model_steps.around_of names code p i m) i w = ap (λ (a : model.Around). act a j w) here ∙ ap (λ (k : Instr). act (model_steps.around_of names code p i m) k w) r.0 in
    does_step names code old before p i m n new left s at_p (subst (λ (a : Act). Done p (p + 1) a n old.world old.at new.world new.at left s) e d)
