use Rattle.std.proofs.Common.{◌≡◌, ◌∙◌, ◌<◌, length, refl, sym, ap, arith}
use Rattle.liveness.specs.Live.{set_at}
use Rattle.liveness.specs.declared.counted.PointSets.{PointSets}
use Rattle.liveness.proofs.Counts.{set_read}
use Rattle.liveness.proofs.Losts.{none_told, one_told, all_told, tells_lost, lost_tells}
use Rattle.liveness.proofs.kept_live.tell_lost.Goals as goal

pub loop-place-init : goal.loop-place-init
loop-place-init c = record {
  before = refl;
  was = refl;
  stack = refl;
  room = refl;
  telling = none_told c.args.walk.now.touched.places c.args.walk.now.was.items c.args.walk.now.before.sets.items c.args.lost.now;
}

pub loop-place-preserved : goal.loop-place-preserved
loop-place-preserved c =
    let k = c.args.walk.now in
    let p = c.in-Some.place in
    let i = c.loop-place.invariant in
    let was_many = ap (λ (v : _). length v.items) i.was in
    let before_many = ap (λ (s : PointSets). length s.sets.items) i.before in
    let below : p < length k.was.items = omega (arith, c.in-Some.ensures.within, i.room, c.requires.room, c.requires.was) in
    let inside : p < length k.before.sets.items = omega (arith, below, c.requires.was, c.requires.before) in
    let was : set_at k.was.items p ≡ c.index.result.now.bits = ap (λ (v : _). set_at v.items p) (sym i.was) ∙ set_read c.loop-place.walk.was.items p c.index.result.now (omega (arith, below, was_many)) c.index.ensures in
    let now : set_at k.before.sets.items p ≡ c.index-in-Some.result.now.bits = ap (λ (s : PointSets). set_at s.sets.items p) (sym i.before) ∙ set_read c.loop-place.walk.before.sets.items p c.index-in-Some.result.now (omega (arith, inside, before_many)) c.index-in-Some.ensures in
    record {
      before = i.before;
      was = i.was;
      stack = i.stack;
      room = c.in-Some.ensures.room ∙ i.room;
      telling = one_told k.touched.places c.loop-place.walk.touched.places c.pop.new.self.places k.was.items k.before.sets.items c.args.lost.now c.loop-place.lost c.tell_if.new.places p _ i.telling c.in-Some.ensures.taken c.tell_if.ensures.many c.tell_if.ensures.told
          (tells_lost c.minus.result c.index.result.now c.index-in-Some.result.now k.was.items k.before.sets.items p was now c.minus.ensures)
          (lost_tells c.minus.result c.index.result.now c.index-in-Some.result.now k.was.items k.before.sets.items p was now c.minus.ensures);
    }

pub returns-clause-lost : goal.returns-clause-lost
returns-clause-lost c = all_told c.args.walk.now.touched.places c.loop-place.walk.touched.places c.args.walk.now.was.items c.args.walk.now.before.sets.items c.args.lost.now c.loop-place.lost c.loop-place.invariant.telling c.in_default.ensures.none
