use Rattle.std.proofs.Common.{◌∙◌, ◌<◌, List, length, ap, inl, inr, arith}
use Rattle.thumb_instr.specs.declared.items.Items.{Items}
use Rattle.thumb_instr.specs.Items.{one_of}
use Rattle.code_flow.specs.Flow.{way_list}
use Rattle.liveness.specs.Passes.{gained}
use Rattle.liveness.proofs.Counts.{set_read}
use Rattle.liveness.proofs.Passings.{ways_read}
use Rattle.liveness.proofs.Growings.{grows_same, grows_put, both_told}
use Rattle.liveness.proofs.growing.grow_at.Goals as goal
use Rattle.liveness.proofs.Jumps.{is_within}

pub returns-then-new-old-clause-few : goal.returns-then-new-old-clause-few
returns-then-new-old-clause-few c = c.requires.listed

pub returns-then-new-old-clause-grows : goal.returns-then-new-old-clause-grows
returns-then-new-old-clause-grows c =
    let s = c.args.before.now in
    let inside : c.args.place < length s.sets.items = omega (arith, c.requires.place, c.requires.many) in
    grows_same c.args.ways.now c.args.graph.now c.args.place s c.args.stack.now c.index-old.result.now c.union-new.result c.look-found.result.before c.index-ways-at.result
    (set_read s.sets.items c.args.place c.index-old.result.now inside c.index-old.ensures) c.union-new.ensures (λ x. c.look-found.ensures.before x ∙ ap (λ (l : List Items). gained (way_list c.index-ways-at.result) l s.points.bits x) c.as_slice.ensures.value)
    (ways_read c.args.ways.now c.args.place c.index-ways-at.result c.requires.place c.index-ways-at.is) c.if-new-old.true

pub returns-then-before-points-clause-few : goal.returns-then-before-points-clause-few
returns-then-before-points-clause-few c = omega (arith, c.tell_callers.ensures.few, c.tell_callers.ensures.room, c.tell_before.ensures.room, c.requires.room)

pub returns-then-before-points-clause-grows : goal.returns-then-before-points-clause-grows
returns-then-before-points-clause-grows c =
    let s = c.args.before.now in
    let inside : c.args.place < length s.sets.items = omega (arith, c.requires.place, c.requires.many) in
    grows_put c.args.ways.now c.args.graph.now c.args.place s c.args.stack.now c.index-old.result.now c.union-new.result c.look-found.result.before c.index-ways-at.result
    (set_read s.sets.items c.args.place c.index-old.result.now inside c.index-old.ensures) c.union-new.ensures (λ x. c.look-found.ensures.before x ∙ ap (λ (l : List Items). gained (way_list c.index-ways-at.result) l s.points.bits x) c.as_slice.ensures.value)
    (ways_read c.args.ways.now c.args.place c.index-ways-at.result c.requires.place c.index-ways-at.is) c.put.new.all c.tell_callers.new.stack inside c.put.ensures.sets c.if-new-old.false (λ q h. c.tell_callers.ensures.kept q (c.tell_before.ensures.kept q h))
    (both_told c.args.ways.now c.args.graph.now c.args.place c.tell_before.new.stack.places c.tell_callers.new.stack.places c.tell_callers.new.stack.places c.tell_before.ensures.told c.tell_callers.ensures.kept c.tell_callers.ensures.told (λ q h. h)) (λ r q h. inl c.if-before-points.true)

pub returns-clause-few : goal.returns-clause-few
returns-clause-few c = omega (arith, c.tell_returns.ensures.few, c.tell_returns.ensures.room, c.tell_callers.ensures.room, c.tell_before.ensures.room, c.requires.room)

pub returns-clause-grows : goal.returns-clause-grows
returns-clause-grows c =
    let s = c.args.before.now in
    let inside : c.args.place < length s.sets.items = omega (arith, c.requires.place, c.requires.many) in
    grows_put c.args.ways.now c.args.graph.now c.args.place s c.args.stack.now c.index-old.result.now c.union-new.result c.look-found.result.before c.index-ways-at.result
    (set_read s.sets.items c.args.place c.index-old.result.now inside c.index-old.ensures) c.union-new.ensures (λ x. c.look-found.ensures.before x ∙ ap (λ (l : List Items). gained (way_list c.index-ways-at.result) l s.points.bits x) c.as_slice.ensures.value)
    (ways_read c.args.ways.now c.args.place c.index-ways-at.result c.requires.place c.index-ways-at.is) c.put.new.all c.tell_returns.new.stack inside c.put.ensures.sets c.if-new-old.false (λ q h. c.tell_returns.ensures.kept q (c.tell_callers.ensures.kept q (c.tell_before.ensures.kept q h)))
    (both_told c.args.ways.now c.args.graph.now c.args.place c.tell_before.new.stack.places c.tell_callers.new.stack.places c.tell_returns.new.stack.places c.tell_before.ensures.told c.tell_callers.ensures.kept c.tell_callers.ensures.told c.tell_returns.ensures.kept)
    (λ r q h. inr (c.tell_returns.ensures.told q (ap (one_of q) c.as_slice-3.ensures.value ∙ r.all_of_them q (is_within c.args.ways.now q h) h)))
