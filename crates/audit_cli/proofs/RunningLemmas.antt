-- A run of `trace`, step by step: the loop's invariant, and how the run stands when the loop ends.
use Rattle.std.proofs.Common.{◌≡◌, ◌∙◌, ℕ, zero, suc, ◌+◌, ◌<◌, true, false, List, [], ◌∷◌, ◌++◌, Option, Some, None, refl, sym, ap, subst, arith, inl, inr, ◌⊎◌, below_more}
use Rattle.std.specs.Prelude.{slice_get}
use Rattle.thumb_model.specs.Listing.{Code, Place, Op, Word}
use Rattle.thumb_model.specs.Naming.{Naming}
use Rattle.thumb_model.specs.States.{State, Event, Position, Here, Ended, Continuation, On, Stay, To, Over}
use Rattle.thumb_model.specs.Acts.{act}
use Rattle.thumb_model.specs.Steps.{around_of, arrives, step, step_at, step_on, times}
use Rattle.thumb_model.specs.Same.{has_ended}
use Rattle.thumb_machine.specs.declared.answers.Answer.{Answer}
use Rattle.thumb_machine.specs.declared.world.End.{End}
use Rattle.thumb_machine.specs.declared.world.End.TheVariants as end
use Rattle.thumb_machine.specs.declared.position.Position.{Position as MachinePosition}
use Rattle.thumb_machine.specs.declared.position.Position.TheVariants as at
use Rattle.thumb_machine.specs.declared.position.Stage.{Stage}
use Rattle.thumb_machine.specs.declared.position.Stage.TheVariants as stage
use Rattle.thumb_machine.specs.declared.world.World.{World}
use Rattle.thumb_machine.specs.declared.machine.Machine.{Machine}
use Rattle.thumb_machine.specs.Outside.{events_of}
use Rattle.thumb_machine.specs.Stages.{end_of, next_at, next_on, stage_of}
use Rattle.thumb_machine.specs.Positions.{EndedBy, IsStage, Stands, at_of, state_of}
use Rattle.thumb_machine.specs.Running.{Stepped}
use Rattle.audit_cli.specs.Trace.{GoesOn, IsRun, StandsAfter, goes, wants, ended}
use Rattle.audit_cli.proofs.StayLemmas.{stays_quiet}

-- ---- what a stage says of a step ----

no_end_goes : {X : Type 0} (e : End) → stage.Going ≡ stage_of e → X
no_end_goes end.Left h = absurd (cc)
no_end_goes end.Fault h = absurd (cc)
no_end_goes end.Astray h = absurd (cc)
no_end_goes end.Fell h = absurd (cc)

no_end_wants : {X : Type 0} (e : End) → stage.Wants ≡ stage_of e → X
no_end_wants end.Left h = absurd (cc)
no_end_wants end.Fault h = absurd (cc)
no_end_wants end.Astray h = absurd (cc)
no_end_wants end.Fell h = absurd (cc)

going_next : (n : Continuation) (here : MachinePosition) → IsStage stage.Going n here → (n ≡ On) ⊎ ((p : ℕ) × (n ≡ To p))
going_next On here h = inl refl
going_next (To p) here h = inr (p, refl)
going_next Stay here h = absurd (let bad : stage.Going ≡ stage.Wants = h in cc)
going_next Over (at.Here p) h = absurd h
going_next Over (at.Ended e) h = no_end_goes e h

wanting_next : (n : Continuation) (here : MachinePosition) → IsStage stage.Wants n here → n ≡ Stay
wanting_next Stay here h = refl
wanting_next On here h = absurd (let bad : stage.Wants ≡ stage.Going = h in cc)
wanting_next (To p) here h = absurd (let bad : stage.Wants ≡ stage.Going = h in cc)
wanting_next Over (at.Here p) h = absurd h
wanting_next Over (at.Ended e) h = no_end_wants e h

-- the run goes on to a place
arrives_on : (n : Continuation) (p q : ℕ) → (n ≡ On) ⊎ ((r : ℕ) × (n ≡ To r)) → has_ended (arrives p q n) ≡ false
arrives_on On p q h = refl
arrives_on (To r) p q h = refl
arrives_on Stay p q h = refl
arrives_on Over p q (inl e) = absurd (let bad : Over ≡ On = e in cc)
arrives_on Over p q (inr (r, e)) = absurd (let bad : Over ≡ To r = e in cc)

no_stay : (n : Continuation) → (n ≡ On) ⊎ ((r : ℕ) × (n ≡ To r)) → n ≡ Stay → ⊥
no_stay n (inl e) h = let bad : On ≡ Stay = sym e ∙ h in absurd (cc)
no_stay n (inr (r, e)) h = let bad : To r ≡ Stay = sym e ∙ h in absurd (cc)

over_is_none : {X : Type 0} → (Over ≡ On) ⊎ ((r : ℕ) × (Over ≡ To r)) → X
over_is_none (inl e) = absurd (let bad : Over ≡ On = e in cc)
over_is_none (inr (r, e)) = absurd (let bad : Over ≡ To r = e in cc)

step_runs : (names : Naming) (code : Code) (a : Position) (s : State) → (next_at names code a s ≡ On) ⊎ ((r : ℕ) × (next_at names code a s ≡ To r)) → has_ended (step_at names code a s).at ≡ false
step_runs names code Ended s h = over_is_none h
step_runs names code (Here p) s h = on (slice_get code.places p) h where
  on : (o : Option Place) → (next_on names code p o s ≡ On) ⊎ ((r : ℕ) × (next_on names code p o s ≡ To r)) → has_ended (step_on names code p o s).at ≡ false
  on None h = over_is_none h
  on (Some (Word v)) h = over_is_none h
  on (Some (Op i mention)) h = arrives_on (act (around_of names code p i mention) i s.world).next p (p + 1) h

-- ---- steps so far ----

times_suc : {A : Type 0} (f : A → A) (n : ℕ) (a : A) → times f (suc n) a ≡ f (times f n a)
times_suc f zero a = refl
times_suc f (suc n) a = times_suc f n (f a)

times_more : {A : Type 0} (f : A → A) (n : ℕ) (a : A) → times f (n + 1) a ≡ f (times f n a)
times_more f n a = let e : n + 1 ≡ suc n = omega arith in ap (λ (k : ℕ). times f k a) e ∙ times_suc f n a

-- the state that a run stands in
stands_in : (s : State) (world : World) (here : MachinePosition) (left : List Answer) → Stands s world here left → state_of world here left ≡ s
stands_in s world here left h = λ i. record { world = record { values = h.values i; memory = h.memory i; answers = h.answers i }; at = h.at i; events = h.events i }

-- so many steps were taken, and the run goes on
pub record SoFar (names : Naming) (code : Code) (start : State) (n : ℕ) (m : Machine) (left : List Answer) : Type 0 where
  pub stands : Stands (times (step names code) n start) m.world m.at left
  pub goes_on : (k : ℕ) → k < n → GoesOn names code (times (step names code) k start)
  pub running : has_ended (at_of m.at) ≡ false

pub none_yet : (names : Naming) (code : Code) (m : Machine) (left : List Answer) → has_ended (at_of m.at) ≡ false → SoFar names code (state_of m.world m.at left) 0 m left
none_yet names code m left h = record {
  stands = record { values = refl; memory = refl; answers = refl; at = refl; events = refl };
  goes_on = λ k lt. absurd (omega arith);
  running = h;
}

-- a stage other than these two is that of an end
over_at : (n : Continuation) (s : Stage) (a : MachinePosition) → IsStage s n a → (s ≡ stage.Going → ⊥) → (s ≡ stage.Wants → ⊥) → (n ≡ Over) × (e : End) × (a ≡ at.Ended e) × (s ≡ stage_of e)
over_at On s a h going wanting = absurd (going h)
over_at (To p) s a h going wanting = absurd (going h)
over_at Stay s a h going wanting = absurd (wanting h)
over_at Over s (at.Here p) h going wanting = absurd h
over_at Over s (at.Ended e) h going wanting = (refl, e, refl, h)

ended_last : (old : MachinePosition) (e : End) (es : List Event) → has_ended (at_of old) ≡ false → EndedBy old (at.Ended e) es
    → (front : List Event) × (last : Event) × (es ≡ front ++ last ∷ []) × (end_of last ≡ Some e)
ended_last (at.Here p) e es running h = h
ended_last (at.Ended d) e es running h = absurd (let bad : true ≡ false = running in cc)

-- a step of a run that goes on
module _ (names : Naming) (code : Code) (start : State) (most n : ℕ) (m new : Machine) (before left : List Answer) (s : Stage)
    (less : n < most) (far : SoFar names code start n m before) (did : Stepped names code m before new left s) where
  abbrev now : State
  now = times (step names code) n start

  abbrev next : Continuation
  next = next_at names code now.at now

  stood : state_of m.world m.at before ≡ now
  stood = stands_in now m.world m.at before far.stands

  stands_next : Stands (times (step names code) (n + 1) start) new.world new.at left
  stands_next = subst (λ (t : State). Stands t new.world new.at left) (ap (step names code) stood ∙ sym (times_more (step names code) n start)) did.stands

  staged : IsStage s next new.at
  staged = subst (λ (t : State). IsStage s (next_at names code t.at t) new.at) stood did.stage

  running_now : has_ended now.at ≡ false
  running_now = sym (ap has_ended far.stands.at) ∙ far.running

  -- no step so far needed more answers than were left
  went : (next ≡ Stay → ⊥) → (k : ℕ) → k < n + 1 → GoesOn names code (times (step names code) k start)
  went enough = below_more (λ k. GoesOn names code (times (step names code) k start)) n far.goes_on (record { running = running_now; enough = enough })

  on : s ≡ stage.Going → (next ≡ On) ⊎ ((p : ℕ) × (next ≡ To p))
  on same = going_next next new.at (subst (λ (t : Stage). IsStage t next new.at) same staged)

  pub one_more : s ≡ stage.Going → SoFar names code start (n + 1) new left
  one_more same = record {
    stands = stands_next;
    goes_on = went (no_stay next (on same));
    running = ap has_ended stands_next.at ∙ ap (λ (t : State). has_ended t.at) (times_more (step names code) n start) ∙ step_runs names code now.at now (on same);
  }

  stays : s ≡ stage.Wants → next ≡ Stay
  stays same = wanting_next next new.at (subst (λ (t : Stage). IsStage t next new.at) same staged)

  pub asks_more : s ≡ stage.Wants → IsRun names code start most n stage.Wants
  asks_more same = record { within = omega (arith, less); goes_on = far.goes_on; stands = wants less (stays same) }

  pub asks_unseen : s ≡ stage.Wants → events_of new.world.events.items ≡ now.events
  asks_unseen same = stands_next.events ∙ ap (λ (t : State). t.events) (times_more (step names code) n start) ∙ stays_quiet names code now.at now (stays same)

  pub seen : events_of new.world.events.items ≡ (times (step names code) (n + 1) start).events
  seen = stands_next.events

  pub is_over : (s ≡ stage.Going → ⊥) → (s ≡ stage.Wants → ⊥) → IsRun names code start most (n + 1) s
  is_over going wanting =
      let o = over_at next s new.at staged going wanting in
      let e : End = o.1 in
      let ends = ended_last m.at e (events_of new.world.events.items) far.running (subst (λ (a : MachinePosition). EndedBy m.at a (events_of new.world.events.items)) o.2 did.ends) in
      record {
        within = omega (arith, less);
        goes_on = went (λ h. let bad : Over ≡ Stay = sym o.0 ∙ h in absurd (cc));
        stands = subst (λ (t : Stage). StandsAfter names code most (n + 1) (times (step names code) (n + 1) start) t) (sym o.3)
            (ended (sym (ap has_ended stands_next.at) ∙ ap (λ (a : MachinePosition). has_ended (at_of a)) o.2) ends.0 ends.1 e (sym stands_next.events ∙ ends.2) ends.3);
      }

-- all steps were taken
pub all_taken : (names : Naming) (code : Code) (start : State) (most : ℕ) (m : Machine) (left : List Answer) → SoFar names code start most m left → IsRun names code start most most stage.Going
all_taken names code start most m left far = record { within = omega arith; goes_on = far.goes_on; stands = goes (sym (ap has_ended far.stands.at) ∙ far.running) refl }
