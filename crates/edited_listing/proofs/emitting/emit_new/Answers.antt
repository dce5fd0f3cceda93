use Rattle.std.proofs.Common.{◌∙◌, map}
use Rattle.listing_parser.specs.Parsing.{own_line}
use Rattle.listing_parser.specs.Views.{line_view}
use Rattle.edited_listing.proofs.Emits.{emitted_first, emitted_more, emitted_last, fewer_items}
use Rattle.edited_listing.proofs.emitting.emit_new.Goals as goal

pub loop-instr-init : goal.loop-instr-init
loop-instr-init c = emitted_first own_line c.args.home c.args.from c.args.stands.now (map line_view c.args.out.now.items) c.args.kept.now c.requires.within

pub next_new-requires : goal.next_new-requires
next_new-requires c = record {
  marks = c.loop-instr.invariant.same ∙ c.requires.marks;
  within = c.loop-instr.invariant.within;
}

pub pass_one-at-requires : goal.pass_one-at-requires
pass_one-at-requires c = record {
  marks = c.in-Some.ensures.same ∙ c.loop-instr.invariant.same ∙ c.requires.marks;
  within = c.loop-instr.invariant.within;
  few = c.requires.few;
}

pub loop-instr-preserved : goal.loop-instr-preserved
loop-instr-preserved c =
    emitted_more own_line c.args.home c.args.from c.args.stands.now (map line_view c.args.out.now.items) c.args.kept.now c.loop-instr.at (map line_view c.loop-instr.out.items) c.loop-instr.kept c.in-Some.instr c.pass_one-at.result
    (map line_view c.add_new.new.out.items) c.pass_one-at.new.kept c.loop-instr.invariant c.in-Some.ensures.new c.in_ok-add_new.ensures c.pass_one-at.ensures.rest c.pass_one-at.ensures.within (c.pass_one-at.ensures.same ∙ c.in-Some.ensures.same)

pub loop-instr-smaller : goal.loop-instr-smaller
loop-instr-smaller c = fewer_items c.args.home c.loop-instr.at c.pass_one-at.result c.args.stands.now c.in-Some.instr c.in-Some.ensures.new c.pass_one-at.ensures.rest

pub returns-clause-lines : goal.returns-clause-lines
returns-clause-lines c =
    emitted_last own_line c.args.home c.args.from c.args.stands.now (map line_view c.args.out.now.items) c.args.kept.now c.loop-instr.at (map line_view c.loop-instr.out.items) c.loop-instr.kept c.loop-instr.invariant c.in_default.ensures.new
