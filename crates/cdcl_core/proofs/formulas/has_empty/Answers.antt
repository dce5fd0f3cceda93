use Rattle.std.proofs.Common.{◌≡◌, ◌≢◌, [], subst, arith}
use Rattle.std.specs.Prelude.{All}
use Rattle.std.proofs.lemmas.List.{take_all}
use Rattle.cdcl_core.proofs.Statements.{All-next, Any-here, empty_is, empty_not}
use Rattle.cdcl_core.proofs.formulas.has_empty.Goals as goal

pub returns-then-is_empty-clause-some : goal.returns-then-is_empty-clause-some
returns-then-is_empty-clause-some c = λ _. Any-here (λ clause. clause ≡ []) c.args.formula.now.clauses c.loop-i.i c.clause-clause.result.now c.clause-clause.ensures.clause (empty_is c.clause-clause.result.now c.if-is_empty.ensures)

pub loop-i-preserved : goal.loop-i-preserved
loop-i-preserved c = All-next (λ clause. clause ≢ []) c.args.formula.now.clauses c.loop-i.i c.clause-clause.result.now c.clause-clause.ensures.clause c.loop-i.invariant (empty_not c.clause-clause.result.now c.if-is_empty.ensures)

pub returns-clause-none : goal.returns-clause-none
returns-clause-none c = λ _. subst (All (λ clause. clause ≢ [])) (take_all c.loop-i.i c.args.formula.now.clauses (omega (arith, c.loop-i-test.false, c.clauses-i-end.ensures))) c.loop-i.invariant
