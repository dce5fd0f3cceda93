use Rattle.std.proofs.Common.{ℤ, List, subst, sym, arith}
use Rattle.std.specs.Prelude.{All}
use Rattle.std.proofs.lemmas.List.{take_all}
use Rattle.clause_model.specs.Clauses.{codes_of}
use Rattle.cnf_gates.specs.Cnf.{IsLiteral}
use Rattle.cdcl_core.specs.Solved.{AreBelow}
use Rattle.cdcl_core.proofs.Statements.{All-next, below_next, least_next}
use Rattle.cdcl_core.proofs.formulas.reach.Goals as goal

pub loop-i-preserved : goal.loop-i-preserved
loop-i-preserved c = (
  c.reach_of-reach.ensures.few,
  All-next (λ clause. All IsLiteral clause) c.args.formula.now.clauses c.loop-i.i c.clause-numbers.result.now c.clause-numbers.ensures.clause c.loop-i.invariant.1 c.clause-numbers.ensures.literals,
  below_next c.args.formula.now.clauses c.loop-i.i c.clause-numbers.result.now c.clause-numbers.ensures.clause c.loop-i.reach c.reach_of-reach.result c.reach_of-reach.ensures.from c.loop-i.invariant.2 c.reach_of-reach.ensures.below,
  omega (arith, c.loop-i.invariant.3, c.reach_of-reach.ensures.from),
  λ n v b. least_next c.args.formula.now.clauses c.loop-i.i c.clause-numbers.result.now c.clause-numbers.ensures.clause c.loop-i.reach c.reach_of-reach.result n (λ h. c.loop-i.invariant.4 n v h) (λ f h. c.reach_of-reach.ensures.least n f h) b,
)

pub returns-clause-literals : goal.returns-clause-literals
returns-clause-literals c = subst (All (λ clause. All IsLiteral clause)) (take_all c.loop-i.i c.args.formula.now.clauses (omega (arith, c.loop-i-test.false, c.clauses-i-end.ensures))) c.loop-i.invariant.1

pub returns-clause-below : goal.returns-clause-below
returns-clause-below c = subst (λ (cs : List (List ℤ)). AreBelow c.loop-i.reach (codes_of cs)) (take_all c.loop-i.i c.args.formula.now.clauses (omega (arith, c.loop-i-test.false, c.clauses-i-end.ensures))) c.loop-i.invariant.2

pub returns-clause-least : goal.returns-clause-least
returns-clause-least c = λ n v b. c.loop-i.invariant.4 n v (subst (λ (cs : List (List ℤ)). AreBelow n (codes_of cs)) (sym (take_all c.loop-i.i c.args.formula.now.clauses (omega (arith, c.loop-i-test.false, c.clauses-i-end.ensures)))) b)
