use Rattle.std.proofs.Common.{◌∙◌, get_or, add-one, ap, inl, inr, arith}
use Rattle.kept_places.specs.Marks.{marked}
use Rattle.liveness.proofs.Waits.{more_on}
use Rattle.liveness.proofs.settling.tell_returns.Goals as goal
use Rattle.liveness.proofs.Callers.{among, one_taken}

pub push-requires-clause-place : goal.push-requires-clause-place
push-requires-clause-place c =
    let w = c.requires.within (get_or c.args.returns.now c.loop-place.place-index 0) (among c.args.returns.now c.loop-place.place-index c.loop-place-test.true) in
    omega (arith, w, c.loop-place.invariant.more.as_many)

pub loop-place-preserved : goal.loop-place-preserved
loop-place-preserved c = record {
  more = more_on c.args.waiting.now c.loop-place.waiting c.push.new.self c.loop-place.invariant.more c.in_ok-push.ensures.more;
  told = λ q o. elim (one_taken q c.args.returns.now c.loop-place.place-index c.loop-place-test.true (rw add-one at o)) [
    | inl h ↦ c.in_ok-push.ensures.more.kept q (c.loop-place.invariant.told q h)
    | inr e ↦ ap (marked c.push.new.self.marks.items) e ∙ c.in_ok-push.ensures.here
  ];
}
