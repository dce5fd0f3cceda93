use Rattle.std.proofs.Common.{◌∙◌, get_or, add-one, inl, inr, arith, eq-eqb}
use Rattle.std.proofs.lemmas.Bool.{or_left, or_right}
use Rattle.thumb_instr.specs.Items.{one_of}
use Rattle.liveness.proofs.Callers.{among, one_taken}
use Rattle.liveness.proofs.growing.tell_returns.Goals as goal

pub push-requires : goal.push-requires
push-requires c =
    let w = c.requires.within (get_or c.args.returns.now c.loop-place.place-index 0) (among c.args.returns.now c.loop-place.place-index c.loop-place-test.true) in
    omega (arith, w, c.loop-place.invariant.room)

pub loop-place-preserved : goal.loop-place-preserved
loop-place-preserved c = record {
  room = c.push.ensures.room ∙ c.loop-place.invariant.room;
  few = c.push.ensures.few;
  kept = λ q h. c.push.ensures.members q ∙ or_left _ _ (c.loop-place.invariant.kept q h);
  told = λ q o. elim (one_taken q c.args.returns.now c.loop-place.place-index c.loop-place-test.true (rw add-one at o)) [
    | inl h ↦ c.push.ensures.members q ∙ or_left _ _ (c.loop-place.invariant.told q h)
    | inr e ↦ c.push.ensures.members q ∙ or_right (one_of q c.loop-place.stack.places) _ (eq-eqb q _ e)
  ];
}
