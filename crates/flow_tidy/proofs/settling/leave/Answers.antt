use Rattle.std.proofs.Common.{◌∙◌, [], sym, subst}
use Rattle.thumb_model.specs.Listing.{code_of}
use Rattle.thumb_model.specs.Replaced.{replaced}
use Rattle.code_flow.specs.Marks.{AreMarks}
use Rattle.flow_tidy.specs.DuePlaces.{AreDue}
use Rattle.flow_tidy.proofs.Settled.{due_all, due_left, marks_left, may_go, may_leave}
use Rattle.flow_tidy.proofs.settling.leave.Goals as goal

pub returns-then-lets_on-clause-reached : goal.returns-then-lets_on-clause-reached
returns-then-lets_on-clause-reached c =
    let code = code_of c.args.listing.now in
    subst (AreMarks (replaced code c.args.place 1 [])) (sym c.leave.ensures) (marks_left code c.args.place c.args.reached.now (may_go code c.args.place c.requires.goes) c.requires.reached)

pub returns-else-lets_on-clause-reached : goal.returns-else-lets_on-clause-reached
returns-else-lets_on-clause-reached c =
    let code = code_of c.args.listing.now in
    subst (AreMarks (replaced code c.args.place 1 [])) (sym c.leave.ensures) (marks_left code c.args.place c.args.reached.now (may_go code c.args.place c.requires.goes) c.requires.reached)

pub returns-then-lets_on-clause-due : goal.returns-then-lets_on-clause-due
returns-then-lets_on-clause-due c =
    let code = code_of c.args.listing.now in
    subst (AreDue (replaced code c.args.place 1 [])) (sym c.leave_all.ensures) (due_all code c.args.place c.args.due.now (may_go code c.args.place c.requires.goes) c.requires.due)

pub returns-else-lets_on-clause-due : goal.returns-else-lets_on-clause-due
returns-else-lets_on-clause-due c =
    let code = code_of c.args.listing.now in
    subst (AreDue (replaced code c.args.place 1 [])) (sym c.leave-else-lets_on.ensures) (due_left code c.args.place c.args.due.now (may_leave code c.args.place c.requires.goes (sym c.lets_on.ensures ∙ c.if-lets_on.false)) c.requires.due)
