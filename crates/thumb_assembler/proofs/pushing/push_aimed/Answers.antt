use Rattle.std.proofs.Common.{Some, None, arith}
use Rattle.listing_parser.specs.Views.{mention_view}
use Rattle.thumb_assembler.proofs.Places.{found_there, reach_found}
use Rattle.thumb_assembler.proofs.Pushed.{aimed_lost, aimed_pushed}
use Rattle.thumb_assembler.proofs.pushing.push_aimed.Goals as goal

pub overflow_add-target : goal.overflow_add-target
overflow_add-target c =
    let found = found_there c.args.layout.now.base c.args.listing.now (mention_view c.args.mention.now) c.deref.result.now (Some c.in-Some.target) c.deref.ensures.value c.in-Some.ensures in
    let r = reach_found c.args.layout.now.base c.args.listing.now c.args.at c.in-Some.target c.args.instr.now (mention_view c.args.mention.now) c.requires.ready.fair c.requires.ready.even c.requires.in_code c.requires.fair c.requires.reached found in
    omega (arith, r.small)

pub aimed-requires-clause-reached : goal.aimed-requires-clause-reached
aimed-requires-clause-reached c =
    let found = found_there c.args.layout.now.base c.args.listing.now (mention_view c.args.mention.now) c.deref.result.now (Some c.in-Some.target) c.deref.ensures.value c.in-Some.ensures in
    (reach_found c.args.layout.now.base c.args.listing.now c.args.at c.in-Some.target c.args.instr.now (mention_view c.args.mention.now) c.requires.ready.fair c.requires.ready.even c.requires.in_code c.requires.fair c.requires.reached found).fault

pub aimed-requires-clause-to_even : goal.aimed-requires-clause-to_even
aimed-requires-clause-to_even c =
    let found = found_there c.args.layout.now.base c.args.listing.now (mention_view c.args.mention.now) c.deref.result.now (Some c.in-Some.target) c.deref.ensures.value c.in-Some.ensures in
    (reach_found c.args.layout.now.base c.args.listing.now c.args.at c.in-Some.target c.args.instr.now (mention_view c.args.mention.now) c.requires.ready.fair c.requires.ready.even c.requires.in_code c.requires.fair c.requires.reached found).even

pub returns-in-None : goal.returns-in-None
returns-in-None c =
    aimed_lost c.args.layout.now.base c.args.listing.now c.args.instr.now (mention_view c.args.mention.now) c.requires.fair
    (found_there c.args.layout.now.base c.args.listing.now (mention_view c.args.mention.now) c.deref.result.now None c.deref.ensures.value c.in-None.ensures)

pub returns-in_ok-push_code-in-Some : goal.returns-in_ok-push_code-in-Some
returns-in_ok-push_code-in-Some c =
    aimed_pushed c.args.layout.now.base c.args.listing.now c.args.at c.in-Some.target c.args.instr.now c.aimed.result (mention_view c.args.mention.now) c.args.bytes.now.items c.push_code.new.bytes.items
    (found_there c.args.layout.now.base c.args.listing.now (mention_view c.args.mention.now) c.deref.result.now (Some c.in-Some.target) c.deref.ensures.value c.in-Some.ensures)
    c.aimed.ensures
    (c.in_ok-push_code-in-Some.ensures {u = tt})
