use Rattle.std.proofs.Common.{◌≡◌, ◌⊎◌, arith, subst}
use Rattle.std.specs.Prelude.{All}
use Rattle.std.proofs.lemmas.List.{take_all}
use Rattle.std.proofs.lemmas.List.Elements.{All-more}
use Rattle.clause_model.specs.Clauses.{IsFalse}
use Rattle.unit_propagation.proofs.watching.find_free.Goals as goal

pub returns-clause-none : goal.returns-clause-none
returns-clause-none c = λ e. subst (All (λ x. (x ≡ c.args.other) ⊎ IsFalse c.args.assignment.now x)) (take_all c.loop-literal.literal-index c.args.literals.now (omega arith)) c.loop-literal.invariant

pub loop-literal-preserved : goal.loop-literal-preserved
loop-literal-preserved c = All-more (λ x. (x ≡ c.args.other) ⊎ IsFalse c.args.assignment.now x) c.args.literals.now c.loop-literal.literal-index 0 c.loop-literal-test.true c.loop-literal.invariant (c.is_free.ensures.bound c.if-is_free.false)
