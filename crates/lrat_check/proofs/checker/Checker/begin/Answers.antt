use Rattle.std.proofs.Common.{◌≤◌, ◌∙◌, length, refl, sym, inl, arith}
use Rattle.std.proofs.lemmas.List.{length-map}
use Rattle.clause_model.specs.Clauses.{codes_of}
use Rattle.lrat_check.specs.Live.{clause_at}
use Rattle.lrat_check.proofs.Starts.{Begun-none, Begun-next, code_at, empty_flag, all_codes}
use Rattle.lrat_check.proofs.checker.Checker.begin.Goals as goal
use Rattle.lrat_check.proofs.checker.Checker.begin.Goals.{then-refuted, else-refuted}

pub loop-i-init : goal.loop-i-init
loop-i-init c = Begun-none (clause_at c.new-live.result) (λ id. rw c.new-live.ensures.empty refl)

pub loop-i-preserved : goal.loop-i-preserved
loop-i-preserved c =
    let at = code_at c.args.formula.now.clauses c.loop-i.i c.clause.result.now c.in_ok-literals.literals.items c.clause.ensures.clause c.in_ok-literals.ensures in
    Begun-next _ _ c.loop-i.refuted c.if-refuted.refuted (codes_of c.args.formula.now.clauses) c.loop-i.i c.in_ok-literals.literals.items at.0 at.1 c.loop-i.invariant c.in_ok-insert.ensures.ok
    (elim c.if-refuted.branch [
      | then-refuted w ↦ (λ _. inl w.if-refuted.true, λ _. w.refuted-is ∙ w.if-refuted.true)
      | else-refuted w ↦ empty_flag c.loop-i.refuted c.if-refuted.refuted c.in_ok-literals.literals (w.refuted-is ∙ w.is_empty-refuted.ensures) w.if-refuted.false
    ])

pub returns : goal.returns
returns c =
    let b : length c.args.formula.now.clauses ≤ c.loop-i.i = omega (arith, c.clauses-i-end.ensures) in
    let all = all_codes c.args.formula.now.clauses c.loop-i.i b in
    record {
      live = rw all at c.loop-i.invariant.numbers;
      last = c.clauses.ensures ∙ sym (length-map _ _);
      refuted = rw all at c.loop-i.invariant.refuted;
    }
