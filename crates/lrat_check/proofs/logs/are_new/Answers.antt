use Rattle.std.proofs.Common.{◌+◌, arith, drop, take, subst, sym, ◌++◌, Bool}
use Rattle.std.specs.Prelude.{IsTrue, ◌↔◌}
use Rattle.clause_model.specs.Clauses.{codes_of, IsNew}
use Rattle.lrat_check.specs.Proofs.{additions}
use Rattle.lrat_check.specs.Lists.{Holds}
use Rattle.lrat_check.specs.Runs.{contents_of}
use Rattle.step_ledger.proofs.Rises.{at_least-goes_on}
use Rattle.lrat_check.proofs.Additions.{content_at, additions_clause, additions_none, before_clause, before_none}
use Rattle.lrat_check.proofs.Newness.{newness_within, newness_next, new_fault, new_step, new_same, newness_same}
use Rattle.lrat_check.proofs.ClauseMembers.{says_no, denied}
use Rattle.lrat_check.proofs.logs.are_new.Goals as goal
use Rattle.lrat_check.proofs.logs.are_new.Goals.{in-Some+in_ok-add_new+else-not-branch, in_default}

pub returns-in_err-add_new-clause-cost : goal.returns-in_err-add_new-clause-cost
returns-in_err-add_new-clause-cost g c =
    let before = codes_of c.args.formula.now.clauses ++ additions (take c.loop-line.line-index (contents_of c.args.log.now)) in
    let at = content_at c.args.log.now c.loop-line.line-index c.line-item.result c.loop-line-test.true c.line-item.is in
    let first = additions_clause (contents_of c.args.log.now) c.loop-line.line-index _ at c.in-Some.clause.now c.in-Some.ensures.added in
    newness_within before _ _ c.in-Some.clause.now c.loop-line.steps _ _ first c.loop-line.invariant.cost (c.add_new.ensures.cost before c.loop-line.invariant.held)

pub returns-then-not-branch-clause-new : goal.returns-then-not-branch-clause-new
returns-then-not-branch-clause-new g c =
    let before = codes_of c.args.formula.now.clauses ++ additions (take c.loop-line.line-index (contents_of c.args.log.now)) in
    let at = content_at c.args.log.now c.loop-line.line-index c.line-item.result c.loop-line-test.true c.line-item.is in
    let first = additions_clause (contents_of c.args.log.now) c.loop-line.line-index _ at c.in-Some.clause.now c.in-Some.ensures.added in
    says_no _ (new_fault before _ _ c.in-Some.clause.now _ first c.loop-line.invariant.rest (denied _ (subst (λ (b : Bool). IsTrue b ↔ IsNew before c.in-Some.clause.now) c.if-not-branch.true (c.in_ok-add_new.ensures.new before c.loop-line.invariant.held))))

pub returns-then-not-branch-clause-cost : goal.returns-then-not-branch-clause-cost
returns-then-not-branch-clause-cost g c =
    let before = codes_of c.args.formula.now.clauses ++ additions (take c.loop-line.line-index (contents_of c.args.log.now)) in
    let at = content_at c.args.log.now c.loop-line.line-index c.line-item.result c.loop-line-test.true c.line-item.is in
    let first = additions_clause (contents_of c.args.log.now) c.loop-line.line-index _ at c.in-Some.clause.now c.in-Some.ensures.added in
    newness_within before _ _ c.in-Some.clause.now c.loop-line.steps _ _ first c.loop-line.invariant.cost (c.add_new.ensures.cost before c.loop-line.invariant.held)

pub loop-line-preserved : goal.loop-line-preserved
loop-line-preserved g c =
    let at = content_at c.args.log.now c.loop-line.line-index c.line-item.result c.loop-line-test.true c.line-item.is in
    let log = contents_of c.args.log.now in
    let i = c.loop-line.line-index in
    let codes = codes_of c.args.formula.now.clauses in
    let before = codes ++ additions (take i log) in
    let after = codes ++ additions (take (i + 1) log) in
    let left = additions (drop (i + 1) log) in
    let held = c.loop-line.invariant.held in
    elim c.match-clause_of.branch [
      | in-Some+in_ok-add_new+else-not-branch w ↦
          let first = additions_clause log i _ at w.in-Some.clause.now w.in-Some.ensures.added in
          let later = before_clause log i _ at codes w.in-Some.clause.now w.in-Some.ensures.added in
          record {
            held = rw w.clauses-is (subst (Holds w.add_new.new.self) (sym later) (w.in_ok-add_new.ensures.added w.if-not-branch.false before held));
            rest = new_step before after _ left w.in-Some.clause.now _ first c.loop-line.invariant.rest ((w.in_ok-add_new.ensures.new before held).0 w.if-not-branch.false) later;
            cost = newness_next before after _ left w.in-Some.clause.now c.loop-line.steps c.match-clause_of.steps _ first later c.loop-line.invariant.cost (omega (arith, w.steps-is, w.add_new.ensures.cost before held));
            rises = rw w.steps-is (at_least-goes_on _ _ _ 0 0 c.loop-line.invariant.rises w.add_new.ensures.rises);
          }
      | in_default w ↦
          let none = additions_none log i _ at w.in_default.ensures.added in
          let same = before_none log i _ at codes w.in_default.ensures.added in
          rw (w.clauses-is, w.steps-is, same) (record {
            held = held;
            rest = new_same before _ left _ none c.loop-line.invariant.rest;
            cost = newness_same before _ left c.loop-line.steps _ none c.loop-line.invariant.cost;
            rises = c.loop-line.invariant.rises;
          })
    ]
