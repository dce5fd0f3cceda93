use Rattle.std.proofs.Common.{◌∙◌}
use Rattle.edited_listing.proofs.Rest.{passed_first, passed_more, passed_last}
use Rattle.edited_listing.proofs.passing.pass.Goals as goal

pub loop-left-init : goal.loop-left-init
loop-left-init c = passed_first c.args.stands.now c.args.from c.args.count c.args.kept.now c.requires.within

pub pass_one-at-requires : goal.pass_one-at-requires
pass_one-at-requires c = record {
  marks = c.loop-left.invariant.same ∙ c.requires.marks;
  within = c.loop-left.invariant.within;
  few = c.requires.few;
}

pub loop-left-preserved : goal.loop-left-preserved
loop-left-preserved c =
    passed_more c.args.stands.now c.args.from c.args.count c.args.kept.now c.loop-left.at c.loop-left.left c.loop-left.kept c.pass_one-at.result c.pass_one-at.new.kept c.loop-left.invariant c.loop-left-test.true c.pass_one-at.ensures.rest c.pass_one-at.ensures.within c.pass_one-at.ensures.same

pub returns : goal.returns
returns c = record {
  rest = passed_last c.args.stands.now c.args.from c.args.count c.args.kept.now c.loop-left.at c.loop-left.left c.loop-left.kept c.loop-left.invariant c.loop-left-test.false;
  within = c.loop-left.invariant.within;
  same = c.loop-left.invariant.same;
}
