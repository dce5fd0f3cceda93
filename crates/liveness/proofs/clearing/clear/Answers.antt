use Rattle.std.proofs.Common.{◌≡◌, ◌∙◌, ◌<◌, ◌&&◌, ℕ, List, length, ap, sym, subst, refl, arith, eq-eqb}
use Rattle.std.proofs.lemmas.Bool.{or_left, or_right}
use Rattle.thumb_instr.specs.Items.{one_of}
use Rattle.shrinking_sets.specs.Clearing.{IsClearing}
use Rattle.liveness.specs.Clears.{in_sets}
use Rattle.liveness.specs.Walk.{cleared}
use Rattle.liveness.proofs.Stacks.{one_more}
use Rattle.liveness.proofs.Growings.{one_less}
use Rattle.liveness.proofs.Passings.{wired}
use Rattle.liveness.proofs.Clearings.{step_on}
use Rattle.liveness.proofs.Walks.{popped_fit}
use Rattle.liveness.proofs.clearing.clear.Goals as goal

pub loop-place-init : goal.loop-place-init
loop-place-init c = record {
  fit = c.requires.fit;
  start = λ p. refl;
  touched = λ p h. h;
  returns = λ r x h. absurd (let n = c.none-gone.ensures x in cc);
  settled = λ t by h. h;
}

pub clear_step-requires-clause-place : goal.clear_step-requires-clause-place
clear_step-requires-clause-place c = omega (arith, c.in-Some.ensures.within, c.loop-place.invariant.fit.stack_room)

pub clear_step-requires-clause-touched : goal.clear_step-requires-clause-touched
clear_step-requires-clause-touched c = c.loop-place.invariant.fit.stacked c.in-Some.place (ap (one_of c.in-Some.place) c.in-Some.ensures.taken ∙ one_more c.in-Some.place c.in-Some.place c.pop.new.self.places ∙ or_right (one_of c.in-Some.place c.pop.new.self.places) _ (eq-eqb c.in-Some.place c.in-Some.place refl))

pub clear_step-requires-clause-many : goal.clear_step-requires-clause-many
clear_step-requires-clause-many c = c.loop-place.invariant.fit.was_many

pub clear_step-requires-clause-fit : goal.clear_step-requires-clause-fit
clear_step-requires-clause-fit c =
    popped_fit c.args.graph.now.is_point.items (length c.args.ways.now) c.loop-place.walk c.pop.new.self c.loop-place.invariant.fit c.in-Some.ensures.room
    (λ q h. ap (one_of q) c.in-Some.ensures.taken ∙ one_more q c.in-Some.place c.pop.new.self.places ∙ or_left _ _ h)

pub loop-place-preserved : goal.loop-place-preserved
loop-place-preserved c =
    let all = c.args.ways.now in
    let inside : c.in-Some.place < length all = omega (arith, c.in-Some.ensures.within, c.loop-place.invariant.fit.stack_room) in
    let on = c.clear_step.ensures.on in
    let step = c.clear_step.ensures.step in
    let k = c.loop-place.walk in
    record {
      fit = c.clear_step.ensures.fit;
      start = λ p. on.start p ∙ c.loop-place.invariant.start p;
      touched = λ p h. on.touched p (c.loop-place.invariant.touched p h);
      returns = λ r x h. step.returns r x (λ g. c.loop-place.invariant.returns r x g) h;
      settled = λ t by begun x.
          step_on t all c.args.graph.now c.args.forward.now c.args.window by (wired t.new all c.args.graph.now by.graph) c.requires.counted c.in-Some.place inside k (record { before = k.before; was = k.was; stack = c.pop.new.self; touched = k.touched }) c.clear_step.new.walk c.loop-place.gone c.clear_step.new.gone refl (λ p. refl)
          c.in-Some.ensures.taken c.loop-place.invariant.fit.below on step (λ y e. step.returns by.graph.returns y (λ g. c.loop-place.invariant.returns by.graph.returns y g) e) x (c.loop-place.invariant.settled t by begun x);
    }

pub loop-place-smaller : goal.loop-place-smaller
loop-place-smaller c = omega (arith, c.clear_step.ensures.on.less, one_less c.loop-place.walk.stack.places c.pop.new.self.places c.in-Some.place c.in-Some.ensures.taken)

pub returns-clause-settled : goal.returns-clause-settled
returns-clause-settled c = λ t by begun x.
    let k = c.loop-place.walk in
    let same : k.stack.places ≡ c.pop.new.self.places = c.in_default.ensures.none ∙ sym c.in_default.ensures.same in
    subst (λ (ps : List ℕ). IsClearing t.code t.place t.old t.is x (in_sets c.args.forward.now.sets.items x) (in_sets k.before.sets.items x) (λ p. one_of p ps && cleared k p x)) same (c.loop-place.invariant.settled t by begun x)
