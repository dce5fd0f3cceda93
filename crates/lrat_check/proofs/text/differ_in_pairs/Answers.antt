use Rattle.std.proofs.Common.{◌≢◌, ℕ, ◌≤◌, length, refl, subst, take}
use Rattle.std.specs.Prelude.{All}
use Rattle.std.proofs.lemmas.List.{take_all}
use Rattle.clause_model.specs.Clauses.{HasDistinctVariables, variable_of}
use Rattle.lrat_check.proofs.Distinct.{distinct_pairs}
use Rattle.lrat_check.proofs.text.differ_in_pairs.Goals as goal

pub loop-place-preserved : goal.loop-place-preserved
loop-place-preserved c =
    distinct_pairs c.args.literals.now c.loop-place.place c.index-literals-place.result c.loop-place-test.true c.index-literals-place.is
    (subst (λ (v : ℕ). All (λ m. variable_of m ≢ v) (take c.loop-place.place c.args.literals.now)) c.variable.ensures (c.has_variable.ensures.none c.if-has_variable.false))
    c.loop-place.invariant

pub returns : goal.returns
returns c =
    let b : length c.args.literals.now ≤ c.loop-place.place = c.loop-place-test.false in (
      λ t. subst HasDistinctVariables (take_all c.loop-place.place c.args.literals.now b) c.loop-place.invariant,
      λ h. refl,
    )
