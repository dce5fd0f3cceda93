use Rattle.std.proofs.Common.{◌≤◌, length, inl, inr, subst, sym}
use Rattle.std.specs.Prelude.{Any, Contains}
use Rattle.std.proofs.lemmas.List.{take_all}
use Rattle.clause_model.proofs.Scans.{never}
use Rattle.cdcl_core.proofs.Lists.{Any_take}
use Rattle.cdcl_core.proofs.dropping.has_true.Goals as goal

pub loop-literal-preserved : goal.loop-literal-preserved
loop-literal-preserved c = λ t. elim (Any_take (Contains c.args.trail.now) c.args.literals.now c.loop-literal.literal-index 0 c.loop-literal-test.true t) [
  | inl x ↦ c.loop-literal.invariant x
  | inr x ↦ never c.if-is_true.ensures.1 (subst (Contains c.args.trail.now) (sym c.from_code.ensures) x)
]

pub returns : goal.returns
returns c =
    let b : length c.args.literals.now ≤ c.loop-literal.literal-index = c.loop-literal-test.false in
    ((λ f. absurd cc), (λ t. absurd (c.loop-literal.invariant (subst (Any (Contains c.args.trail.now)) (sym (take_all c.loop-literal.literal-index c.args.literals.now b)) t))))
