use Rattle.std.proofs.Common.{◌∙◌, ◌<◌, get_or, length, add-one, sym, ap, inl, inr, arith, eq-eqb}
use Rattle.std.proofs.lemmas.Bool.{or_left, or_right}
use Rattle.thumb_instr.specs.Items.{one_of}
use Rattle.liveness.specs.Stack.{Stack}
use Rattle.liveness.proofs.Callers.{one_taken}
use Rattle.liveness.proofs.Startings.{one_all}
use Rattle.liveness.proofs.kept_live.wait_again.Goals as goal

pub at-place-requires : goal.at-place-requires
at-place-requires c = let t = ap (λ (s : Stack). length s.places) c.loop-number.invariant.touched in omega (arith, c.loop-number-test.true, t, c.len-number-end.ensures)

pub push-requires : goal.push-requires
push-requires c = let t = ap (λ (s : Stack). s.room) c.loop-number.invariant.touched in omega (arith, c.at-place.ensures.within, t, c.loop-number.invariant.room, c.requires)

pub loop-number-preserved : goal.loop-number-preserved
loop-number-preserved c =
    let ps = c.args.walk.now.touched.places in
    let i = c.loop-number.number in
    let within : i < length ps = omega (arith, c.loop-number-test.true, c.len-number-end.ensures) in
    record {
      before = c.loop-number.invariant.before;
      was = c.loop-number.invariant.was;
      touched = c.loop-number.invariant.touched;
      room = c.push.ensures.room ∙ c.loop-number.invariant.room;
      waits = λ q o. elim (one_taken q ps i within (rw add-one at o)) [
        | inl h ↦ c.push.ensures.members q ∙ or_left _ _ (c.loop-number.invariant.waits q h)
        | inr e ↦ c.push.ensures.members q ∙ or_right (one_of q c.loop-number.walk.stack.places) _ (eq-eqb q _ (e ∙ sym (c.at-place.ensures.place ∙ ap (λ (s : Stack). get_or s.places i 0) c.loop-number.invariant.touched)))
      ];
    }

pub returns-clause-waits : goal.returns-clause-waits
returns-clause-waits c = λ q h. c.loop-number.invariant.waits q (one_all q c.args.walk.now.touched.places c.loop-number.number (omega (arith, c.loop-number-test.false, c.len-number-end.ensures)) h)
