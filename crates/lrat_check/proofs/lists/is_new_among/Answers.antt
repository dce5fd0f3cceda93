use Rattle.std.proofs.Common.{◌≤◌, ◌+◌, ◌≢◌, arith, List, ℕ, length, subst, sym, false}
use Rattle.std.specs.Prelude.{AllPairs, IsTrue, sum_by, ◌↔◌}
use Rattle.clause_model.specs.Clauses.{IsNew}
use Rattle.lrat_check.specs.Lists.{listed}
use Rattle.step_ledger.proofs.Rises.{at_least-goes_on}
use Rattle.lrat_check.proofs.ClauseMembers.{says_no, says_yes, denied}
use Rattle.lrat_check.proofs.Listed.{list_fails, list_more, looked_more, looked_within, all_looked}
use Rattle.lrat_check.proofs.lists.is_new_among.Goals as goal

pub returns-then-not-is_none_part-clause-new : goal.returns-then-not-is_none_part-clause-new
returns-then-not-is_none_part-clause-new g c =
    let lists = listed c.args.lists.now in
    let members = c.args.members.now in
    let one = subst (λ (clauses : List (List ℕ)). IsTrue false ↔ IsNew clauses members) c.list_of.ensures c.if-not-is_none_part.ensures.new in
    says_no _ (list_fails lists members c.literals-literals.result.now c.loop-literal.literal-index c.literal-item.result c.loop-literal-test.true c.literal-item.is c.literals-literals.ensures.value (denied _ one))

pub returns-then-not-is_none_part-clause-cost : goal.returns-then-not-is_none_part-clause-cost
returns-then-not-is_none_part-clause-cost g c =
    let lists = listed c.args.lists.now in
    let literals = c.literals-literals.result.now in
    let i = c.loop-literal.literal-index in
    let one = subst (λ (clauses : List (List ℕ)). c.is_none_part.new.steps ≤ c.loop-literal.steps + sum_by length clauses) c.list_of.ensures c.is_none_part.ensures.cost in
    let next = looked_more lists c.args.members.now literals i c.literal-item.result c.loop-literal-test.true c.literal-item.is c.loop-literal.steps c.is_none_part.new.steps c.args.steps.now c.loop-literal.invariant.cost one in
    omega (arith, next, looked_within lists literals (i + 1) (subst (AllPairs (λ l m. l ≢ m)) (sym c.literals-literals.ensures.value) c.literals-literals.ensures.distinct))

pub loop-literal-preserved : goal.loop-literal-preserved
loop-literal-preserved g c =
    let lists = listed c.args.lists.now in
    let members = c.args.members.now in
    let literals = c.literals-literals.result.now in
    let i = c.loop-literal.literal-index in
    let cost = subst (λ (clauses : List (List ℕ)). c.is_none_part.new.steps ≤ c.loop-literal.steps + sum_by length clauses) c.list_of.ensures c.is_none_part.ensures.cost in
    record {
      new = list_more lists members literals i c.literal-item.result c.loop-literal-test.true c.literal-item.is c.loop-literal.invariant.new
          (subst (λ (clauses : List (List ℕ)). IsNew clauses members) c.list_of.ensures (c.is_none_part.ensures.new.0 c.if-not-is_none_part.false));
      cost = looked_more lists members literals i c.literal-item.result c.loop-literal-test.true c.literal-item.is c.loop-literal.steps c.is_none_part.new.steps c.args.steps.now c.loop-literal.invariant.cost cost;
      rises = at_least-goes_on _ _ _ 0 0 c.loop-literal.invariant.rises c.is_none_part.ensures.rises;
    }

pub returns-clause-new : goal.returns-clause-new
returns-clause-new g c =
    says_yes _ (all_looked (listed c.args.lists.now) c.args.members.now c.literals-literals.result.now c.loop-literal.literal-index c.loop-literal-test.false c.literals-literals.ensures.value c.loop-literal.invariant.new)

pub returns-clause-cost : goal.returns-clause-cost
returns-clause-cost g c =
    let lists = listed c.args.lists.now in
    let literals = c.literals-literals.result.now in
    omega (arith, c.loop-literal.invariant.cost, looked_within lists literals c.loop-literal.literal-index (subst (AllPairs (λ l m. l ≢ m)) (sym c.literals-literals.ensures.value) c.literals-literals.ensures.distinct))
