use Rattle.std.proofs.Common.{◌≡◌, ◌∙◌, ◌∷◌, refl, sym, ap, subst, List, Bool}
use Rattle.std.proofs.lemmas.Bool.{false≢true}
use Rattle.ascii_scan.specs.Lines.{Placed}
use Rattle.ascii_scan.specs.Source.{lines_left, line_view}
use Rattle.seq_enum.specs.Costs.{IsCostText}
use Rattle.seq_enum.specs.CostSteps.{Notes}
use Rattle.seq_enum.proofs.CostReading.{Progress, missing_first, bad_first, begun, noted, refused_at, kept_are, whole_text}
use Rattle.seq_enum.proofs.cost_text.read_costs.Goals as goal

pub returns-in-None : goal.returns-in-None
returns-in-None c = missing_first c.args.text.now (sym c.new-lines.ensures ∙ c.in-None.ensures.steps.0)

pub returns-then-not-is_heading : goal.returns-then-not-is_heading
returns-then-not-is_heading c =
    bad_first c.args.text.now (line_view c.in-Some.line) (lines_left c.next.new.self) (sym c.new-lines.ensures ∙ c.in-Some.ensures.steps) (λ is. false≢true (c.if-not-is_heading.ensures.1 is))

pub loop-line-init : goal.loop-line-init
loop-line-init c =
    let line = line_view c.in-Some.line in
    let left : lines_left c.next.new.self ≡ lines_left c.into_iter-line-iterator.result = sym (ap lines_left c.into_iter-line-iterator.ensures.into_iter_gives) in
    begun c.args.text.now line (lines_left c.into_iter-line-iterator.result) _ (sym c.new-lines.ensures ∙ c.in-Some.ensures.steps ∙ ap (λ ls. line ∷ ls) left) (c.is_heading.ensures.0 c.if-not-is_heading.false) refl

pub returns-then-not-note : goal.returns-then-not-note
returns-then-not-note c =
    let kept = c.loop-line.kept in
    let line = line_view c.in-Some-line.line in
    let P : List Placed → Type 0 = λ left. Progress c.args.text.now left kept in
    let Q : Bool → Type 0 = Notes line kept c.note.new.costs in
    refused_at c.args.text.now line (lines_left c.next-in-loop-line.new.self) kept (subst P c.in-Some-line.ensures.steps c.loop-line.invariant) (subst Q c.if-not-note.true c.note.ensures)

pub loop-line-preserved : goal.loop-line-preserved
loop-line-preserved c =
    let kept = c.loop-line.kept in
    let line = line_view c.in-Some-line.line in
    let P : List Placed → Type 0 = λ left. Progress c.args.text.now left kept in
    let Q : Bool → Type 0 = Notes line kept c.note.new.costs in
    noted c.args.text.now line (lines_left c.next-in-loop-line.new.self) kept c.note.new.costs (subst P c.in-Some-line.ensures.steps c.loop-line.invariant) (subst Q c.if-not-note.false c.note.ensures)

pub costs_of-requires-clause-each : goal.costs_of-requires-clause-each
costs_of-requires-clause-each c = kept_are c.args.text.now (lines_left c.loop-line.line-iterator) c.loop-line.kept c.loop-line.invariant

pub returns : goal.returns
returns c =
    let kept = c.loop-line.kept in
    let P : List Placed → Type 0 = λ left. Progress c.args.text.now left kept in
    subst (IsCostText c.args.text.now) (sym c.costs_of.ensures) (whole_text c.args.text.now kept (subst P c.in-None-line.ensures.steps.0 c.loop-line.invariant))
