use Rattle.std.proofs.Common.{◌≡◌, ◌<◌, ◌+◌, ◌-◌, ℕ, take, length, sym, subst, inl, inr, arith}
use Rattle.std.specs.Prelude.{Any, Contains}
use Rattle.clause_model.proofs.Scans.{never}
use Rattle.cdcl_core.proofs.Lists.{Any_take}
use Rattle.cdcl_core.proofs.analysis.sees_some.Goals as goal

pub loop-at-preserved : goal.loop-at-preserved
loop-at-preserved c =
    let n : ℕ = c.loop-at.at - 1 in
    let e : c.loop-at.at ≡ n + 1 = omega arith in
    let b : n < length c.args.part.now = omega (arith, c.loop-at.invariant.0) in (
      omega arith,
      λ a. elim (Any_take (Contains c.args.seen.now) c.args.part.now n c.index-part-at.result b (subst (λ (i : ℕ). Any (Contains c.args.seen.now) (take i c.args.part.now)) e (c.loop-at.invariant.1 a))) [
        | inl x ↦ x
        | inr p ↦ absurd (never c.if-is_true.ensures.1 (subst (Contains c.args.seen.now) (sym c.index-part-at.is) p))
      ],
    )
