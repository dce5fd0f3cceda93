use Rattle.std.proofs.Common.{◌∙◌, ◌+◌, ◌<◌, List, Bool, None, Some, drop, false, length, ap, arith, subst, sym}
use Rattle.std.specs.Prelude.{nat_eq}
use Rattle.kept_places.specs.Marks.{rank, IsNode}
use Rattle.window_runs.specs.Rows.{rows_from}
use Rattle.window_runs.specs.Runs.{instr_at}
use Rattle.edited_listing.specs.Changes.{marks_of}
use Rattle.edited_listing.specs.Edited.{Edited, lines_now}
use Rattle.edited_listing.proofs.Running.{next_is, run_ended, run_on}
use Rattle.edited_listing.proofs.looks.run_from.Goals as goal

pub returns-in-None-clause-instrs : goal.returns-in-None-clause-instrs
returns-in-None-clause-instrs c =
    let e : Edited = record { given = c.args.given.now; stands = c.args.stands.now } in
    let r = rank (marks_of c.args.stands.now) c.args.place in
    let found = sym c.in-None.is ∙ c.next_instr.ensures.instr ∙ ap (λ n. instr_at (nat_eq n 0) (drop (rank (marks_of c.args.stands.now) c.loop-instrs.at) (rows_from false (lines_now e)))) c.len-count.ensures.value in
    run_ended e r c.args.most c.args.kept.now c.loop-instrs.kept c.loop-instrs.instrs c.loop-instrs.places.items c.loop-instrs.before c.loop-instrs.at c.loop-instrs.invariant
    (next_is e r c.args.most c.args.kept.now c.loop-instrs.kept c.loop-instrs.instrs c.loop-instrs.places.items c.loop-instrs.before c.loop-instrs.at None c.loop-instrs.invariant found)

pub loop-instrs-preserved : goal.loop-instrs-preserved
loop-instrs-preserved c =
    let e : Edited = record { given = c.args.given.now; stands = c.args.stands.now } in
    let r = rank (marks_of c.args.stands.now) c.args.place in
    let few : length c.loop-instrs.instrs < c.args.most = omega (arith, c.len.ensures.value, c.loop-instrs-test.true) in
    let found = sym c.in-Some.is ∙ c.next_instr.ensures.instr ∙ ap (λ n. instr_at (nat_eq n 0) (drop (rank (marks_of c.args.stands.now) c.loop-instrs.at) (rows_from false (lines_now e)))) c.len-count.ensures.value in
    let node = subst (λ (ms : List Bool). IsNode ms (c.loop-instrs.at + 1) c.node-at.result) (c.loop-instrs.invariant.same ∙ c.requires.marks) c.node-at.ensures.node in
    run_on e r c.args.most c.args.kept.now c.loop-instrs.kept c.node-at.new.self c.loop-instrs.instrs c.push.new.self c.loop-instrs.places.items c.push-in-Some.new.self.items c.loop-instrs.before c.loop-instrs.at c.node-at.result c.in-Some.instr
    c.loop-instrs.invariant few c.in-Some.ensures.within
    (next_is e r c.args.most c.args.kept.now c.loop-instrs.kept c.loop-instrs.instrs c.loop-instrs.places.items c.loop-instrs.before c.loop-instrs.at (Some c.in-Some.instr) c.loop-instrs.invariant found) c.push.ensures c.push-in-Some.ensures.items node c.node-at.ensures.same
