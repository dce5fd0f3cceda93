use Rattle.std.proofs.Common.{◌≡◌, ◌<◌, ℕ, Some, get_or, length, arith}
use Rattle.std.specs.Prelude.{slice_get}
use Rattle.std.proofs.lemmas.Option.{slice_get-get_or, slice_get_within}
use Rattle.window_rewrite.proofs.DueMarks.{one_more}
use Rattle.window_rewrite.proofs.work_list.WorkList.add.Goals as goal

pub loop-place-preserved : goal.loop-place-preserved
loop-place-preserved c =
    let i = c.loop-place.invariant in
    let place : ℕ = get_or c.args.places.now c.loop-place.place-index 0 in
    let at : slice_get c.args.places.now c.loop-place.place-index ≡ Some place = slice_get-get_or c.args.places.now c.loop-place.place-index 0 c.loop-place-test.true in
    let within : place < length c.loop-place.self.due = let w = c.requires.within c.loop-place.place-index place at in omega (arith, w, i.due.as_many) in
    let m = one_more c.args.self.now.due c.loop-place.self.due c.insert.new.self c.args.places.now c.loop-place.place-index place i.due i.these c.insert.ensures within at in
    record { due = m.0; these = m.1; refused = i.refused; lost = i.lost }

pub returns-clause-these : goal.returns-clause-these
returns-clause-these c = λ k p e. c.loop-place.invariant.these k p (let w = slice_get_within c.args.places.now k p e in omega (arith, w, c.loop-place-test.false)) e
