use Rattle.std.proofs.Common.{ℕ, Bool, ◌==◌, eq-eqb, ne_eqb, get_or}
use Rattle.fingerprints.proofs.Looking.{kept_more, kept_less}
use Rattle.fingerprints.proofs.looks.push_places.Goals as goal
use Rattle.fingerprints.proofs.looks.push_places.Goals.{then-column-place+in_ok-push, else-column-place}

pub loop-place-preserved : goal.loop-place-preserved
loop-place-preserved c =
    let p : ℕ → Bool = λ q. get_or c.args.column.now q 0 == c.args.word in
    elim c.if-column-place.branch [
      | then-column-place+in_ok-push w ↦ rw w.places-is (kept_more p c.loop-place.place c.loop-place.places.items w.push.new.self.items c.loop-place.invariant (eq-eqb _ _ w.if-column-place.true) w.in_ok-push.ensures.items)
      | else-column-place w ↦ rw w.places-is (kept_less p c.loop-place.place c.loop-place.places.items c.loop-place.invariant (ne_eqb _ _ w.if-column-place.false))
    ]
