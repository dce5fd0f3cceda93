use Rattle.std.proofs.Common.{◌<◌, length, arith}
use Rattle.liveness.specs.Passes.{total}
use Rattle.liveness.proofs.Weights.{total_bound}
use Rattle.liveness.proofs.Settles.{falls}
use Rattle.liveness.proofs.Growings.{grown_on, grows_more, one_less}
use Rattle.liveness.proofs.Passings.{wired}
use Rattle.liveness.proofs.growing.grow.Goals as goal

pub loop-place-init : goal.loop-place-init
loop-place-init c = record {
  counted = c.requires.counted;
  many = c.requires.many;
  room = c.requires.room;
  more = λ p x h. h;
  grown = λ code graph g. g;
}

pub loop-place-preserved : goal.loop-place-preserved
loop-place-preserved c =
    let all = c.args.ways.now in
    let grows = c.grow_at.ensures.grows in
    let inside : c.in-Some.place < length all = omega (arith, c.in-Some.ensures.within, c.loop-place.invariant.room) in
    record {
      counted = c.grow_at.ensures.counted;
      many = c.grow_at.ensures.many;
      room = c.grow_at.ensures.room;
      more = λ p x h. grows_more all c.args.graph.now c.in-Some.place c.loop-place.before c.pop.new.self c.grow_at.new.before c.grow_at.new.stack grows p x (c.loop-place.invariant.more p x h);
      grown = λ code graph g.
          grown_on code all c.args.graph.now graph (wired code all c.args.graph.now graph) c.in-Some.place inside c.loop-place.before c.loop-place.stack c.pop.new.self c.grow_at.new.before c.grow_at.new.stack c.loop-place.invariant.many c.grow_at.ensures.many c.loop-place.invariant.counted c.grow_at.ensures.counted grows c.in-Some.ensures.taken
          (c.loop-place.invariant.grown code graph g);
    }

pub loop-place-smaller : goal.loop-place-smaller
loop-place-smaller c =
    let bound = total_bound c.grow_at.new.before.sets.items in
    falls (length c.loop-place.stack.places) (length c.pop.new.self.places) (length c.grow_at.new.stack.places) (length c.args.ways.now) (total c.loop-place.before.sets.items) (total c.grow_at.new.before.sets.items) (one_less c.loop-place.stack.places c.pop.new.self.places c.in-Some.place c.in-Some.ensures.taken) c.grow_at.ensures.few (omega (arith, bound, c.grow_at.ensures.many)) c.grow_at.ensures.grows.advances
