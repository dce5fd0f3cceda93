use Rattle.std.proofs.Common.{◌≡◌, ℕ, ◌-◌, ◌<◌, ◌≤◌, List, [], ◌∷◌, ◌++◌, length, get_or, take, drop, reverse, replicate, set, sym, ◌∙◌, ap, arith, subst, Bool, true, false, Vec}
use Rattle.std.specs.Prelude.{AllPairs}
use Rattle.std.specs.Global.{Global}
use Rattle.std.proofs.lemmas.List.{map_push}
use Rattle.step_ledger.specs.Counts.{RisesBy}
use Rattle.lrat_check.specs.declared.line.Line.{Line}
use Rattle.lrat_check.specs.Text.{Content, content_of, names_of, IsUsedPart, used_lengths}
use Rattle.lrat_check.specs.Runs.{contents_of}
use Rattle.lrat_check.specs.Shown.{cut_of, MarksNamed}
use Rattle.lrat_check.proofs.Marking.{written_back}
use Rattle.lrat_check.proofs.Backward.{Going, Going-kept, Going-next, Going-all}
use Rattle.lrat_check.proofs.Showing.{contents_turned, going_first, going_here, going_within, ids_of_all, looks_here, mark_here, never_none, place_within, places_within, reverse_push, shown_rises, shown_short, shown_there, vec_long}
use Rattle.lrat_check.proofs.trimming.keep_used.Goals as goal
use Rattle.lrat_check.proofs.trimming.keep_used.Goals.{then-count-gt0, else-count-gt0}

marks_long : (v : Vec Bool Global) → v.len ≡ length v.items
marks_long v = omega arith

pub loop-place-init : goal.loop-place-init
loop-place-init g c =
    let n : ℕ = c.len-count.result in
    let e : n ≡ length c.args.meanings.now.additions.items = c.len-count.ensures ∙ vec_long c.args.meanings.now.additions in
    let none : c.in_ok-marks.marks.items ≡ replicate n false = c.in_ok-marks.ensures.items_if_clones_equal (λ y e. e) in
    record {
      unset = c.new-assignment.ensures;
      goes = λ clauses lines m.
          subst (λ (kept : List Line). Going clauses lines m.refutes m.open' (reverse (contents_of kept)) c.if-count-gt0.marks.items n c.args.steps.now c.args.steps.now) (sym c.new-kept.ensures.items) (elim c.if-count-gt0.branch [
            | then-count-gt0 w ↦ going_first clauses lines c.args.meanings.now m c.if-count-gt0.marks.items n c.args.steps.now e w.if-count-gt0.true (ap (λ (v : Vec Bool Global). v.items) w.marks-is ∙ ap (λ (ms : List Bool). set ms (n - 1) true) none)
            | else-count-gt0 w ↦ absurd (never_none clauses lines c.args.meanings.now m (subst (λ (k : ℕ). k ≤ 0) e w.if-count-gt0.false))
          ]);
    }

pub returns-in_err-shown-clause-cost : goal.returns-in_err-shown-clause-cost
returns-in_err-shown-clause-cost g c = λ clauses lines first n m s k.
    let w : c.loop-place.place ≤ length c.args.meanings.now.additions.items = places_within clauses lines c.args.meanings.now m c.len-count.result c.loop-place.place c.len-count.ensures c.loop-place.auto.place in
    looks_here clauses lines c.args.meanings.now m first n s k (reverse (contents_of c.loop-place.kept.items)) c.loop-place.marks.items c.loop-place.place c.args.steps.now c.loop-place.steps
    c.loop-place-test.true w (c.loop-place.invariant.goes clauses lines m) c.index.result.now c.index.ensures c.if-index.true c.look_at.new.steps c.look_at.ensures.fewest

pub returns-in_err-shortened-clause-cost : goal.returns-in_err-shortened-clause-cost
returns-in_err-shortened-clause-cost g c = λ clauses lines first n m s k.
    let w : c.loop-place.place ≤ length c.args.meanings.now.additions.items = places_within clauses lines c.args.meanings.now m c.len-count.result c.loop-place.place c.len-count.ensures c.loop-place.auto.place in
    looks_here clauses lines c.args.meanings.now m first n s k (reverse (contents_of c.loop-place.kept.items)) c.loop-place.marks.items c.loop-place.place c.args.steps.now c.loop-place.steps
    c.loop-place-test.true w (c.loop-place.invariant.goes clauses lines m) c.index.result.now c.index.ensures c.if-index.true c.look_at.new.steps c.look_at.ensures.fewest

pub loop-place-preserved-in_ok-push : goal.loop-place-preserved-in_ok-push
loop-place-preserved-in_ok-push g c = record {
  unset = c.look_at.ensures.empty;
  goes = λ clauses lines m.
      let w : c.loop-place.place ≤ length c.args.meanings.now.additions.items = places_within clauses lines c.args.meanings.now m c.len-count.result c.loop-place.place c.len-count.ensures c.loop-place.auto.place in
      let done : List Content = reverse (contents_of c.loop-place.kept.items) in
      let marks : List Bool = c.loop-place.marks.items in
      let place : ℕ = c.loop-place.place - 1 in
      let h : Going clauses lines m.refutes m.open' done marks c.loop-place.place c.args.steps.now c.loop-place.steps = c.loop-place.invariant.goes clauses lines m in
      let b = place_within clauses lines c.args.meanings.now m done marks c.loop-place.place c.args.steps.now c.loop-place.steps c.loop-place-test.true w h in
      let now = going_here clauses lines c.args.meanings.now m done marks c.loop-place.place c.args.steps.now c.loop-place.steps c.loop-place-test.true w h in
      let t : get_or marks place false ≡ true = mark_here clauses lines c.args.meanings.now m done marks c.loop-place.place c.args.steps.now c.loop-place.steps c.loop-place-test.true w h c.index.result.now c.index.ensures ∙ c.if-index.true in
      let shown = c.in_ok-shown.shown in
      let line : Content = cut_of shown in
      let ids : List ℕ = c.args.meanings.now.ids.items in
      let new : List Bool = c.mark_named.new.marks in
      let up : AllPairs (λ id later. id < later) c.deref.result.now = subst (λ (xs : List ℕ). AllPairs (λ id later. id < later) xs) (sym c.deref.ensures.value) c.args.meanings.now.in_order in
      let named : MarksNamed ids (names_of line) marks new =
      subst (λ (xs : List ℕ). MarksNamed xs (names_of line) marks new) c.deref.ensures.value
      (subst (λ (ms : List Bool). MarksNamed c.deref.result.now (names_of line) ms new) c.deref_mut.ensures.value (c.mark_named.ensures up)) in
      let next : Going clauses lines m.refutes m.open' (line ∷ done) new place c.args.steps.now c.look_at.new.steps =
      Going-next clauses lines m.refutes m.open' done marks place c.args.steps.now c.loop-place.steps b now t line
      (shown_short clauses lines c.args.meanings.now m place b shown c.in_ok-shown.ensures.shows)
      (shown_there clauses lines c.args.meanings.now m place b shown c.in_ok-shown.ensures.shows)
      ids (ids_of_all clauses lines c.args.meanings.now m) new named c.look_at.new.steps
      (shown_rises clauses lines c.args.meanings.now m place b shown c.in_ok-shown.ensures.shows c.loop-place.steps c.look_at.new.steps c.in_ok-shown.ensures.count) in
      let kept : reverse (contents_of c.push.new.self.items) ≡ line ∷ done =
      ap reverse (ap contents_of c.in_ok-push.ensures.items ∙ map_push content_of c.loop-place.kept.items c.in_ok-shortened.field-0 ∙ ap (λ (y : Content). contents_of c.loop-place.kept.items ++ y ∷ []) c.in_ok-shortened.ensures)
      ∙ reverse_push (contents_of c.loop-place.kept.items) line in
      subst (λ (xs : List Content). Going clauses lines m.refutes m.open' xs (take c.loop-place.marks.len (new ++ drop (length new) marks)) place c.args.steps.now c.look_at.new.steps) (sym kept)
      (subst (λ (ms : List Bool). Going clauses lines m.refutes m.open' (line ∷ done) ms place c.args.steps.now c.look_at.new.steps) (sym (written_back new marks c.loop-place.marks.len named.same (marks_long c.loop-place.marks))) next);
}

pub returns-in_err-push-clause-cost : goal.returns-in_err-push-clause-cost
returns-in_err-push-clause-cost g c = λ clauses lines first n m s k.
    let w : c.loop-place.place ≤ length c.args.meanings.now.additions.items = places_within clauses lines c.args.meanings.now m c.len-count.result c.loop-place.place c.len-count.ensures c.loop-place.auto.place in
    looks_here clauses lines c.args.meanings.now m first n s k (reverse (contents_of c.loop-place.kept.items)) c.loop-place.marks.items c.loop-place.place c.args.steps.now c.loop-place.steps
    c.loop-place-test.true w (c.loop-place.invariant.goes clauses lines m) c.index.result.now c.index.ensures c.if-index.true c.look_at.new.steps c.look_at.ensures.fewest

pub loop-place-preserved : goal.loop-place-preserved
loop-place-preserved g c = record {
  unset = c.loop-place.invariant.unset;
  goes = λ clauses lines m.
      let w : c.loop-place.place ≤ length c.args.meanings.now.additions.items = places_within clauses lines c.args.meanings.now m c.len-count.result c.loop-place.place c.len-count.ensures c.loop-place.auto.place in
      let done : List Content = reverse (contents_of c.loop-place.kept.items) in
      let marks : List Bool = c.loop-place.marks.items in
      let h : Going clauses lines m.refutes m.open' done marks c.loop-place.place c.args.steps.now c.loop-place.steps = c.loop-place.invariant.goes clauses lines m in
      let b = place_within clauses lines c.args.meanings.now m done marks c.loop-place.place c.args.steps.now c.loop-place.steps c.loop-place-test.true w h in
      let now = going_here clauses lines c.args.meanings.now m done marks c.loop-place.place c.args.steps.now c.loop-place.steps c.loop-place-test.true w h in
      let f : get_or marks (c.loop-place.place - 1) false ≡ false = mark_here clauses lines c.args.meanings.now m done marks c.loop-place.place c.args.steps.now c.loop-place.steps c.loop-place-test.true w h c.index.result.now c.index.ensures ∙ c.if-index.false in
      Going-kept clauses lines m.refutes m.open' done marks (c.loop-place.place - 1) c.args.steps.now c.loop-place.steps b now f;
}

pub returns-clause-part : goal.returns-clause-part
returns-clause-part g c = λ clauses lines m.
    let z : c.loop-place.place ≡ 0 = (let f = c.loop-place-test.false in omega arith) in
    let done : List Content = reverse (contents_of c.loop-place.kept.items) in
    let turned : contents_of c.reverse.new.self.items ≡ done = ap contents_of c.reverse.ensures.items ∙ contents_turned c.loop-place.kept.items in
    let h : Going clauses lines m.refutes m.open' done c.loop-place.marks.items 0 c.args.steps.now c.loop-place.steps =
    subst (λ (k : ℕ). Going clauses lines m.refutes m.open' done c.loop-place.marks.items k c.args.steps.now c.loop-place.steps) z (c.loop-place.invariant.goes clauses lines m) in
    subst (IsUsedPart clauses lines) (sym turned) (Going-all clauses lines m.refutes m.open' done c.loop-place.marks.items c.args.steps.now c.loop-place.steps h)

pub returns-clause-cost : goal.returns-clause-cost
returns-clause-cost g c = λ clauses lines first n m s k.
    going_within clauses lines c.args.meanings.now m first n s k (reverse (contents_of c.loop-place.kept.items)) c.loop-place.marks.items c.loop-place.place c.args.steps.now c.loop-place.steps (c.loop-place.invariant.goes clauses lines m)

pub returns-clause-count : goal.returns-clause-count
returns-clause-count g c = λ clauses lines m.
    let done : List Content = reverse (contents_of c.loop-place.kept.items) in
    let turned : contents_of c.reverse.new.self.items ≡ done = ap contents_of c.reverse.ensures.items ∙ contents_turned c.loop-place.kept.items in
    subst (λ (xs : List Content). RisesBy c.args.steps.now c.loop-place.steps (used_lengths clauses lines xs)) (sym turned) (c.loop-place.invariant.goes clauses lines m).rises
