use Rattle.std.proofs.Common.{◌+◌, List, ◌++◌, drop, refl, ◌∙◌, ap}
use Rattle.std.proofs.lemmas.List.{map_push}
use Rattle.lrat_check.specs.Text.{Content, content_of, addition, deletion}
use Rattle.lrat_check.specs.Runs.{contents_of}
use Rattle.lrat_check.specs.Ending.{add_of, adds_of, up_to_empty}
use Rattle.lrat_check.proofs.Meant.{vec_empty, vec_some, found_deletion, found_last, found_addition}
use Rattle.lrat_check.proofs.trimming.additions_of.Goals as goal
use Rattle.lrat_check.proofs.trimming.additions_of.Goals.{in-Addition+in_ok-push-in-Addition+else-is_empty, in-Deletion}

pub returns-then-is_empty : goal.returns-then-is_empty
returns-then-is_empty c =
    let a = c.in-Addition.addition in
    let line : Content = addition a.id a.literals.items a.hints.items in
    ap adds_of c.in_ok-push-in-Addition.ensures.items
    ∙ map_push add_of c.loop-line.additions.items _
    ∙ found_last c.args.lines.now c.loop-line.line-index c.line-item.result c.loop-line-test.true c.line-item.is line (ap content_of c.in-Addition.is) (adds_of c.loop-line.additions.items) c.loop-line.invariant
    a.id a.literals.items a.hints.items refl (vec_empty c.is_empty.result a.literals c.is_empty.ensures c.if-is_empty.true)

pub loop-line-preserved : goal.loop-line-preserved
loop-line-preserved c = elim c.match-line.branch [
  | in-Addition+in_ok-push-in-Addition+else-is_empty w ↦
      let a = w.in-Addition.addition in
      let line : Content = addition a.id a.literals.items a.hints.items in
      let pushed = ap adds_of w.in_ok-push-in-Addition.ensures.items ∙ map_push add_of c.loop-line.additions.items _ in
      rw w.additions-is (ap (λ (found : List Content). found ++ up_to_empty (drop (c.loop-line.line-index + 1) (contents_of c.args.lines.now))) pushed
      ∙ found_addition c.args.lines.now c.loop-line.line-index c.line-item.result c.loop-line-test.true c.line-item.is line (ap content_of w.in-Addition.is) (adds_of c.loop-line.additions.items) c.loop-line.invariant
      a.id a.literals.items a.hints.items refl (vec_some w.is_empty.result a.literals w.is_empty.ensures w.if-is_empty.false))
  | in-Deletion w ↦
      let a = w.in-Deletion.field-0 in
      rw w.additions-is (found_deletion c.args.lines.now c.loop-line.line-index c.line-item.result c.loop-line-test.true c.line-item.is (deletion a.id a.ids.items) (ap content_of w.in-Deletion.is) (adds_of c.loop-line.additions.items) c.loop-line.invariant a.id a.ids.items refl)
]
