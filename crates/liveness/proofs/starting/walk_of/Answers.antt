use Rattle.std.proofs.Common.{◌∙◌, ◌<◌, length, ap, arith}
use Rattle.std.proofs.lemmas.List.{length-set, length-replicate}
use Rattle.liveness.proofs.Counts.{set_read}
use Rattle.liveness.proofs.Startings.{put_same, all_same, fit_idle}
use Rattle.liveness.proofs.starting.walk_of.Goals as goal

pub loop-place-preserved : goal.loop-place-preserved
loop-place-preserved c =
    let sets = c.loop-place.before.sets.items in
    let p = c.loop-place.place in
    let s = c.index-sets-place.result in
    let within : p < length c.args.sets.now = omega (arith, c.loop-place-test.true) in
    let inside : p < length sets = omega (arith, within, c.loop-place.invariant.many) in
    record {
      counted = c.put.ensures.counted;
      many = ap length c.put.ensures.sets ∙ length-set sets p s ∙ c.loop-place.invariant.many;
      same = put_same sets c.put.new.all.sets.items c.args.sets.now p s inside c.put.ensures.sets (set_read c.args.sets.now p s within c.index-sets-place.is) c.loop-place.invariant.same;
    }

pub returns-clause-fit : goal.returns-clause-fit
returns-clause-fit c = fit_idle c.args.marks.now (length c.args.sets.now) _ c.requires.marks c.requires.few c.loop-place.invariant.counted c.loop-place.invariant.many (ap length (c.in_ok-vec.ensures.items_if_clones_equal (λ y e. e)) ∙ length-replicate _ _) c.in_ok-new.ensures.room c.in_ok-new-2.ensures.room c.in_ok-new.ensures.none c.in_ok-new-2.ensures.none

pub returns-clause-same : goal.returns-clause-same
returns-clause-same c = all_same c.loop-place.before.sets.items c.args.sets.now c.loop-place.invariant.many (λ q l. c.loop-place.invariant.same q (omega (arith, l, c.loop-place-test.false)))
