use Rattle.std.proofs.Common.{◌∙◌, ◌≤◌, ◌+◌, sym, ap, subst, arith, refl, length, Bool}
use Rattle.ascii_scan.specs.Source.{lines_left, line_view}
use Rattle.rule_table.specs.StageView.{stage_of, goes}
use Rattle.rule_table.specs.Steps.{StepsTo}
use Rattle.rule_table.specs.Views.{table_of}
use Rattle.rule_table.proofs.Progress.{Progress, begun, bad_at, more_at, room_at, missing_at, whole_at}
use Rattle.rule_table.proofs.reading.read_table.Goals as goal

pub loop-line-init : goal.loop-line-init
loop-line-init c =
    let left = lines_left c.into_iter-line-iterator.result in
    subst (λ s. Progress c.args.text.now left s 1) (sym c.new-draft.ensures)
    (begun c.args.text.now left (ap lines_left c.into_iter-line-iterator.ensures.into_iter_gives ∙ c.new-line-items.ensures))

pub returns-then-not-branch : goal.returns-then-not-branch
returns-then-not-branch c =
    let it = c.loop-line.line-iterator in
    let s = stage_of c.loop-line.draft in
    let t = stage_of c.step_line.new.draft in
    let line = line_view c.in-Some.line in
    let P : Bool → Type 0 = λ b. StepsTo s line (goes b t) in
    bad_at c.args.text.now (lines_left it) (lines_left c.next.new.self) line s c.loop-line.number c.loop-line.invariant
    (record { number = it.passed + 1; start = it.start; bytes = it.rest.now; is = refl }) c.in-Some.ensures.steps (subst P c.if-not-branch.true c.in_ok-step_line.ensures)

pub overflow_add-number : goal.overflow_add-number
overflow_add-number c =
    let few : c.loop-line.number ≤ length c.args.text.now =
    room_at c.args.text.now (lines_left c.loop-line.line-iterator) (lines_left c.next.new.self) (line_view c.in-Some.line) (stage_of c.loop-line.draft) c.loop-line.number c.loop-line.invariant
    c.in-Some.ensures.steps in
    omega arith

pub loop-line-preserved : goal.loop-line-preserved
loop-line-preserved c =
    let s = stage_of c.loop-line.draft in
    let t = stage_of c.step_line.new.draft in
    let line = line_view c.in-Some.line in
    let P : Bool → Type 0 = λ b. StepsTo s line (goes b t) in
    more_at c.args.text.now (lines_left c.loop-line.line-iterator) (lines_left c.next.new.self) line s t c.loop-line.number c.loop-line.invariant c.in-Some.ensures.steps
    (subst P c.if-not-branch.false c.in_ok-step_line.ensures)

pub returns-in-Some-finished : goal.returns-in-Some-finished
returns-in-Some-finished c =
    whole_at c.args.text.now (lines_left c.loop-line.line-iterator) (stage_of c.loop-line.draft) (table_of c.in-Some-finished.table) c.loop-line.number c.loop-line.invariant c.in-None.ensures.steps.0
    c.in-Some-finished.ensures

pub returns-in-None-finished : goal.returns-in-None-finished
returns-in-None-finished c =
    missing_at c.args.text.now (lines_left c.loop-line.line-iterator) (stage_of c.loop-line.draft) c.loop-line.number c.loop-line.invariant c.in-None.ensures.steps.0
    c.in-None-finished.ensures
