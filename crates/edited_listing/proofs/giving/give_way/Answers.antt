use Rattle.std.proofs.Common.{arith}
use Rattle.edited_listing.proofs.Steps.{giving_starts, some_left, giving_goes_on, giving_ends}
use Rattle.edited_listing.proofs.giving.give_way.Goals as goal

pub loop-before-init : goal.loop-before-init
loop-before-init c = giving_starts c.args.place c.args.count c.args.new.now c.args.home c.args.stands.now.items c.args.kept.now c.requires.marks c.requires.many

pub put-from-requires : goal.put-from-requires
put-from-requires c = record {
  marks = c.loop-before.invariant.noted;
  some = some_left c.args.place c.args.count c.args.new.now c.args.home c.args.stands.now.items c.loop-before.from c.loop-before.before c.loop-before.stands.items c.loop-before.kept c.loop-before.invariant c.loop-before-test.true;
}

pub overflow_add-from : goal.overflow_add-from
overflow_add-from c = omega (arith, c.put-from.ensures.within, c.loop-before.invariant.same, c.requires.few)

pub loop-before-preserved : goal.loop-before-preserved
loop-before-preserved c =
    giving_goes_on c.args.place c.args.count c.args.new.now c.args.home c.args.stands.now.items c.loop-before.from c.loop-before.before c.loop-before.stands.items c.loop-before.kept c.put-from.result c.put-from.new.stands.items c.put-from.new.kept
    c.next_standing-standing.result c.loop-before.invariant c.loop-before-test.true c.put-from.ensures.next c.next_standing-standing.ensures c.put-from.ensures.stands c.put-from.ensures.marks

pub returns : goal.returns
returns c = record {
  stands = giving_ends c.args.place c.args.count c.args.new.now c.args.home c.args.stands.now.items c.loop-before.from c.loop-before.before c.loop-before.stands.items c.loop-before.kept c.loop-before.invariant c.loop-before-test.false;
  marks = c.loop-before.invariant.noted;
}
