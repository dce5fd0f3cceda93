use Rattle.std.proofs.Common.{◌≤◌, ◌+◌, arith, subst, length}
use Rattle.cnf_gates.specs.Cnf.{Cnf, AreClausesOf}
use Rattle.clause_model.specs.Clauses.{codes_of}
use Rattle.cdcl_core.specs.Solved.{AreBelow, VerdictOf}
use Rattle.table_learn.proofs.Asking.{clauses_below}
use Rattle.audit_cli.proofs.raising.search.Goals as goal

pub returns-clause-found : goal.returns-clause-found
returns-clause-found g c = subst (λ (f : Cnf). VerdictOf f c.args.table.now.budget c.in_ok-verdict.verdict) c.in_ok-formula.ensures c.in_ok-verdict.ensures.verdict

pub returns-clause-few : goal.returns-clause-few
returns-clause-few g c =
    let small : c.args.table.now.budget + length c.in_ok-formula.formula.clauses ≤ 4294967295 = omega (arith, c.clauses.ensures, c.from.ensures, c.from-2.ensures, c.if-clauses-from.false) in
    subst (λ (f : Cnf). c.args.table.now.budget + length f.clauses ≤ 4294967295) c.in_ok-formula.ensures small

pub returns-clause-cost : goal.returns-clause-cost
returns-clause-cost g c =
    let v : c.in_ok-formula.formula.variables ≤ 200000 = subst (λ (f : Cnf). f.variables ≤ 200000) c.formula.view_is c.formula.invariant.0 in
    let below : AreBelow 200000 (codes_of c.in_ok-formula.formula.clauses) = clauses_below c.in_ok-formula.formula.clauses (subst (λ (f : Cnf). AreClausesOf 200000 f.clauses) c.formula.view_is c.formula.invariant.1) in
    c.solve.ensures.cost 200000 v below

pub returns-in_err-verdict-clause-cost : goal.returns-in_err-verdict-clause-cost
returns-in_err-verdict-clause-cost g c =
    let v : c.in_ok-formula.formula.variables ≤ 200000 = subst (λ (f : Cnf). f.variables ≤ 200000) c.formula.view_is c.formula.invariant.0 in
    let below : AreBelow 200000 (codes_of c.in_ok-formula.formula.clauses) = clauses_below c.in_ok-formula.formula.clauses (subst (λ (f : Cnf). AreClausesOf 200000 f.clauses) c.formula.view_is c.formula.invariant.1) in
    c.solve.ensures.cost 200000 v below
