use Rattle.std.proofs.Common.{◌∙◌, ◌≤◌, sym, refl, subst, map, length, arith}
use Rattle.std.proofs.lemmas.Bool.{false≢true, not-true, not-false}
use Rattle.std.proofs.lemmas.List.{take_all}
use Rattle.clause_model.specs.Clauses.{HasDistinctVariables, variable_of}
use Rattle.lrat_check.proofs.Deletions.{HasSeen-begun, HasSeen-next}
use Rattle.lrat_check.proofs.Distinct.{variable_at, variable_within, distinct_next, not_distinct}
use Rattle.lrat_check.proofs.text.differ_in_set.Goals as goal

pub loop-literal-init : goal.loop-literal-init
loop-literal-init c = (HasSeen-begun c.new-seen.result c.new-seen.ensures.empty, λ i j d ij jl e. omega arith)

pub returns-then-not-branch : goal.returns-then-not-branch
returns-then-not-branch c = (
  λ t. absurd (false≢true t),
  λ h. absurd (not_distinct c.args.literals.now c.loop-literal.literal-index c.literal-item.result c.loop-literal-test.true c.literal-item.is
      (c.loop-literal.invariant.0.seen' (variable_of c.literal-item.result) (rw (← c.variable.ensures, ← c.from.ensures) (not-false _ (sym c.in_ok-insert.ensures.added ∙ c.if-not-branch.true)))) h),
)

pub loop-literal-preserved : goal.loop-literal-preserved
loop-literal-preserved c =
    let e = c.from.ensures ∙ c.variable.ensures in
    let new = not-true _ (sym c.in_ok-insert.ensures.added ∙ c.if-not-branch.false) in (
      HasSeen-next c.loop-literal.seen c.insert.new.self (map variable_of c.args.literals.now) c.loop-literal.literal-index c.from.result
          (variable_within c.args.literals.now c.loop-literal.literal-index c.literal-item.result c.loop-literal-test.true c.literal-item.is)
          (variable_at c.args.literals.now c.loop-literal.literal-index c.literal-item.result c.loop-literal-test.true c.literal-item.is ∙ sym e) c.in_ok-insert.ensures.updates c.loop-literal.invariant.0,
      distinct_next c.args.literals.now c.loop-literal.literal-index c.literal-item.result c.loop-literal-test.true c.literal-item.is
          (c.loop-literal.invariant.0.unseen (variable_of c.literal-item.result) (rw (← e) new)) c.loop-literal.invariant.1,
    )

pub returns : goal.returns
returns c =
    let b : length c.args.literals.now ≤ c.loop-literal.literal-index = c.loop-literal-test.false in (
      λ t. subst HasDistinctVariables (take_all c.loop-literal.literal-index c.args.literals.now b) c.loop-literal.invariant.1,
      λ h. refl,
    )
