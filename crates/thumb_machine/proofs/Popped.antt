-- POP with pc does the model's act in each case of where its word lands.
use Rattle.std.proofs.Common.{◌≡◌, ℕ, ◌%◌, ◌==◌, false, List, [], ◌∷◌, ◌++◌, refl, sym, ap, ◌∙◌, subst, append_assoc}
use Rattle.std.proofs.lemmas.List.{map-append}
use Rattle.thumb_machine.specs.declared.answers.Answer.{Answer}
use Rattle.thumb_machine.specs.declared.event.Event.{Event}
use Rattle.thumb_machine.specs.declared.world.World.{World}
use Rattle.thumb_machine.specs.declared.world.Continuation.{Continuation}
use Rattle.thumb_machine.specs.declared.world.Continuation.TheVariants as next
use Rattle.thumb_machine.specs.Registers.{values_of}
use Rattle.thumb_machine.specs.Memory.{memory_of}
use Rattle.thumb_machine.specs.Outside.{answers_of, event_of, events_of}
use Rattle.thumb_machine.specs.Acting.{world_of, next_of, Acted, EndsBy}
use Rattle.thumb_machine.specs.Landings.{landed_events, landed_next}
use Rattle.thumb_model.specs.Effect.{Values, assigned, sp}
use Rattle.thumb_model.specs.States.{Act, Fault, Landing, Goes, ends}
use Rattle.thumb_model.specs.Accesses.{behind, left_from, load_events, many_outputs}
use Rattle.thumb_model.specs.Acts.{popped_word, popping, pops, pops_to, with_pc}
use Rattle.thumb_model.specs.States as model

pub events_push : (es : List Event) (e : Event) (x : model.Event) → event_of e ≡ x → events_of (es ++ e ∷ []) ≡ events_of es ++ x ∷ []
events_push es e x h = rw map-append (ap (λ y. events_of es ++ y ∷ []) h)

-- earlier events don't change by which event a run ends
pub ends_behind : (n : Continuation) (front es : List model.Event) → EndsBy n es → EndsBy n (front ++ es)
ends_behind (next.Over e) front es h = (front ++ h.0, h.1, ap (λ l. front ++ l) h.2 ∙ sym (append_assoc front h.0 (h.1 ∷ [])), h.3)
ends_behind n front es h = tt

landed_pop : (l : Landing) (address : ℕ) (xs : List ℕ) (w : model.World)
    → pops_to l address xs w ≡ popping address xs (landed_next l) (landed_events l (popped_word address xs w) (assigned (many_outputs sp (behind (with_pc xs) address) address xs w) w.values)) w
landed_pop (Goes p) address xs w = refl
landed_pop l address xs w = refl

pub popped_acts : (old new : World) (before left : List Answer) (lands : ℕ → Landing) (l : Landing) (address word : ℕ) (xs : List ℕ) (u : Values) (n : Continuation)
    → word ≡ popped_word address xs (world_of old before) → l ≡ lands word
    → u ≡ assigned (many_outputs sp (behind (with_pc xs) address) address xs (world_of old before)) (values_of old.registers)
    → values_of new.registers ≡ u → memory_of new.memory ≡ memory_of old.memory
    → events_of new.events.items ≡ (events_of old.events.items ++ load_events address (with_pc xs)) ++ landed_events l word u
    → answers_of left ≡ left_from (answers_of before) address (with_pc xs) → next_of n ≡ landed_next l → EndsBy n (landed_events l word u)
    → Acted (pops_to (lands (popped_word address xs (world_of old before))) address xs (world_of old before)) old new left n
popped_acts old new before left lands l address word xs u n is lies us registers memory events answers goes over =
    let w : model.World = world_of old before in
    let v : Values = assigned (many_outputs sp (behind (with_pc xs) address) address xs w) w.values in
    let e : lands (popped_word address xs w) ≡ l = sym (lies ∙ ap lands is) in
    let told : landed_events l word u ≡ landed_events l (popped_word address xs w) v = ap (λ x. landed_events l x u) is ∙ ap (λ (y : Values). landed_events l (popped_word address xs w) y) us in
    subst (λ (act : Act). Acted act old new left n) (sym (ap (λ (k : Landing). pops_to k address xs w) e ∙ landed_pop l address xs w))
    (record {
      changed = record {
        registers = registers ∙ us;
        memory = memory;
        events =
            events ∙ append_assoc (events_of old.events.items) (load_events address (with_pc xs)) (landed_events l word u)
            ∙ ap (λ (es : List model.Event). events_of old.events.items ++ (load_events address (with_pc xs) ++ es)) told;
      };
      answers = answers;
      next = goes;
      ends = ends_behind n (load_events address (with_pc xs)) (landed_events l (popped_word address xs w) v) (subst (EndsBy n) told over);
    })

pub pop_faults : (l : Landing) (address : ℕ) (xs : List ℕ) (w : model.World) → (address % 4 == 0) ≡ false → pops l address xs w ≡ ends (Fault address) w
pop_faults l address xs w h = rw h refl
