use Rattle.std.proofs.Common.{◌≡◌, ◌∙◌, ◌+◌, [], length, sym, arith}
use Rattle.thumb_model.specs.Listing.{code_of}
use Rattle.liveness.specs.Passes.{total}
use Rattle.liveness.specs.Waiting.{left}
use Rattle.liveness.proofs.Settles.{begun, taken_settling, settled, few_wait, few_found, first_visits, counts, at_most_one, advanced, falls, in_all}
use Rattle.liveness.proofs.Waits.{none_left}
use Rattle.liveness.proofs.settling.settle.Goals as goal

pub loop-place-init : goal.loop-place-init
loop-place-init g c =
    let all = c.args.ways.now in
    let many : c.place_count.result ≡ length all = c.place_count.ensures ∙ sym c.requires.graph.as_many in
    record {
      settling = begun (code_of c.args.listing.now) all c.args.found.now c.in_ok-waiting.waiting c.requires.before_len c.requires.after_len c.requires.sound c.in_ok-waiting.ensures.waiting (c.in_ok-waiting.ensures.as_many ∙ many) (λ q l. c.in_ok-waiting.ensures.all q (omega (arith, l, many)));
      visited = let fresh = c.in_ok-waiting.ensures.left in omega (arith, fresh, many);
      cost = first_visits c.args.steps.now (left c.in_ok-waiting.waiting) (length all) (total c.args.found.now.before.items) (c.in_ok-waiting.ensures.left ∙ many);
    }

pub advance-requires-clause-place : goal.advance-requires-clause-place
advance-requires-clause-place g c = omega (arith, c.in-Some.ensures.some.within, c.loop-place.invariant.settling.as_many)

pub advance-requires-clause-settling : goal.advance-requires-clause-settling
advance-requires-clause-settling g c = taken_settling (code_of c.args.listing.now) c.args.ways.now c.loop-place.found c.in-Some.place c.loop-place.waiting c.pop.new.self c.loop-place.invariant.settling c.in-Some.ensures.some

pub loop-place-preserved : goal.loop-place-preserved
loop-place-preserved g c =
    let all = c.args.ways.now in
    let done = c.in_ok-advance.ensures in
    record {
      settling = done.settling;
      visited = counts (c.args.steps.now + length all) c.loop-place.steps c.advance.new.steps (left c.loop-place.waiting) (left c.pop.new.self) (left c.advance.new.waiting) c.loop-place.invariant.visited done.count c.in-Some.ensures.some.less done.more;
      cost = advanced c.args.steps.now c.loop-place.steps c.advance.new.steps (left c.loop-place.waiting) (left c.pop.new.self) (left c.advance.new.waiting) (length all) (total c.loop-place.found.before.items) (total c.advance.new.found.before.items) c.loop-place.invariant.cost (at_most_one c.loop-place.steps c.advance.new.steps done.count)
          c.in-Some.ensures.some.less (few_wait (code_of c.args.listing.now) all [] c.advance.new.found c.advance.new.waiting done.settling) done.advances;
    }

pub loop-place-smaller : goal.loop-place-smaller
loop-place-smaller g c =
    let all = c.args.ways.now in
    let done = c.in_ok-advance.ensures in
    falls (left c.loop-place.waiting) (left c.pop.new.self) (left c.advance.new.waiting) (length all) (total c.loop-place.found.before.items) (total c.advance.new.found.before.items) c.in-Some.ensures.some.less (few_wait (code_of c.args.listing.now) all [] c.advance.new.found c.advance.new.waiting done.settling)
    (few_found (code_of c.args.listing.now) all [] c.advance.new.found c.advance.new.waiting done.settling) done.advances

pub returns-clause-closed : goal.returns-clause-closed
returns-clause-closed g c = settled (code_of c.args.listing.now) c.args.ways.now c.loop-place.found c.loop-place.waiting c.loop-place.invariant.settling c.in_default.ensures.none

pub returns-clause-visited : goal.returns-clause-visited
returns-clause-visited g c =
    let none = none_left c.loop-place.waiting c.loop-place.invariant.settling.waiting c.in_default.ensures.none in
    let visited = c.loop-place.invariant.visited in
    omega arith

pub returns-clause-cost : goal.returns-clause-cost
returns-clause-cost g c =
    in_all c.args.steps.now c.loop-place.steps (length c.args.ways.now) (total c.loop-place.found.before.items) (omega (arith, c.loop-place.invariant.cost)) (few_found (code_of c.args.listing.now) c.args.ways.now [] c.loop-place.found c.loop-place.waiting c.loop-place.invariant.settling)

pub returns-in_err-advance-clause-cost : goal.returns-in_err-advance-clause-cost
returns-in_err-advance-clause-cost g c =
    in_all c.args.steps.now c.advance.new.steps (length c.args.ways.now) (total c.loop-place.found.before.items) (omega (arith, c.loop-place.invariant.cost, c.in-Some.ensures.some.less, at_most_one c.loop-place.steps c.advance.new.steps c.in_err-advance.ensures.count))
    (few_found (code_of c.args.listing.now) c.args.ways.now [] c.loop-place.found c.loop-place.waiting c.loop-place.invariant.settling)
