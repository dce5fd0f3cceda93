use Rattle.std.proofs.Common.{◌∙◌, ◌+◌, ap, refl, get_or, arith}
use Rattle.std.specs.Int.{from_bool}
use Rattle.thumb_instr.specs.Items.{has}
use Rattle.liveness.proofs.Counts.{has_some, not_all, marked_or, set_read, plain_put, point_put}
use Rattle.liveness.proofs.counted.put.Goals as goal

pub recount-all-requires-clause-had : goal.recount-all-requires-clause-had
recount-all-requires-clause-had c = λ x l h.
    let at = set_read c.args.all.now.sets.items c.args.place c.index-old.result.now c.requires.place c.index-old.ensures in
    let some = has_some x c.args.marks.now c.args.all.now.sets.items c.args.place (marked_or c.args.marks.now c.args.place ∙ c.if-not-marks-place.false) (ap (λ y. has y x) at ∙ h) in
    omega (arith, some, c.requires.counted.counts x l)

pub recount-all-requires-clause-room : goal.recount-all-requires-clause-room
recount-all-requires-clause-room c = λ x l h.
    let at = set_read c.args.all.now.sets.items c.args.place c.index-old.result.now c.requires.place c.index-old.ensures in
    let less = not_all x c.args.marks.now c.args.all.now.sets.items c.args.place c.requires.place (ap (λ y. has y x) at ∙ h) in
    omega (arith, less, c.requires.counted.counts x l, c.requires.few)

pub returns-clause-counted : goal.returns-clause-counted
returns-clause-counted c =
    let at = set_read c.args.all.now.sets.items c.args.place c.index-old.result.now c.requires.place c.index-old.ensures in
    point_put c.args.marks.now c.args.all.now _ c.args.place c.args.new c.requires.counted c.requires.place c.requires.marks (marked_or c.args.marks.now c.args.place ∙ c.if-not-marks-place.false) refl c.recount-all.ensures.kinds
    (λ x l. ap (λ y. get_or c.recount-all.new.counts.items x 0 + from_bool (has y x)) at ∙ c.recount-all.ensures.counts x l) c.recount-all.ensures.points

pub returns-then-not-marks-place-clause-counted : goal.returns-then-not-marks-place-clause-counted
returns-then-not-marks-place-clause-counted c =
    plain_put c.args.marks.now c.args.all.now _ c.args.place c.args.new c.requires.counted c.requires.place c.requires.marks (marked_or c.args.marks.now c.args.place ∙ c.if-not-marks-place.true) refl refl refl
