use Rattle.std.proofs.Common.{◌≡◌, ◌≤◌, ◌+◌, rules, arith, subst, length}
use Rattle.cnf_gates.specs.Cnf.{Cnf, AreClausesOf}
use Rattle.cnf_gates.specs.Meaning.{assigned}
use Rattle.clause_model.specs.Clauses.{codes_of}
use Rattle.cdcl_core.specs.Solved.{AreBelow, VerdictOf}
use Rattle.table_learn.proofs.Asking.{model_tells, state_words, refutes, spends, clauses_below}
use Rattle.table_learn.proofs.trying.ask.Goals as goal

pub returns-in-Sat-clause-answer : goal.returns-in-Sat-clause-answer
returns-in-Sat-clause-answer g c =
    let v = subst (VerdictOf c.in_ok-formula.formula c.args.budget) c.in-Sat.is c.in_ok-model.ensures.verdict in
    let four : length c.state_of.result.r ≡ 4 = search rules in (
      model_tells c.in_ok-formula.formula c.args.window.now.left c.args.seq.now c.args.window.now.mask.items.bits c.args.window.now.k c.in-Sat.model c.state_of.result c.in_ok-formula.ensures.stated c.requires.left c.requires.right c.args.window.now.mask.in_masks c.requires.mask c.requires.few v.0 c.state_of.ensures.items,
      record { four = four; words = state_words c.state_of.result _ four c.state_of.ensures.items (c.in_ok-formula.ensures.models_tell (assigned c.in-Sat.model) v.0).0; flags = c.state_of.ensures.flags },
    )

pub returns-in-Unsat-clause-answer : goal.returns-in-Unsat-clause-answer
returns-in-Unsat-clause-answer g c =
    let v = subst (VerdictOf c.in_ok-formula.formula c.args.budget) c.in-Unsat.is c.in_ok-model.ensures.verdict in
    let small : c.args.budget + length c.in_ok-formula.formula.clauses ≤ 4294967295 = omega (arith, c.clauses.ensures, c.from.ensures, c.from-2.ensures, c.if-clauses-from.false) in
    refutes c.args.budget c.in_ok-formula.formula _ c.in-Unsat.log c.in_ok-formula.ensures.stated small v

pub returns-clause-answer : goal.returns-clause-answer
returns-clause-answer g c =
    let v = subst (VerdictOf c.in_ok-formula.formula c.args.budget) c.in-Spent.is c.in_ok-model.ensures.verdict in
    let small : c.args.budget + length c.in_ok-formula.formula.clauses ≤ 4294967295 = omega (arith, c.clauses.ensures, c.from.ensures, c.from-2.ensures, c.if-clauses-from.false) in
    spends c.args.budget c.in_ok-formula.formula _ c.in-Spent.log c.in_ok-formula.ensures.stated small v

pub returns-in-Sat-clause-cost : goal.returns-in-Sat-clause-cost
returns-in-Sat-clause-cost g c =
    let v : c.in_ok-formula.formula.variables ≤ 200000 = subst (λ (f : Cnf). f.variables ≤ 200000) c.formula-2.view_is c.formula-2.invariant.0 in
    let below : AreBelow 200000 (codes_of c.in_ok-formula.formula.clauses) = clauses_below c.in_ok-formula.formula.clauses (subst (λ (f : Cnf). AreClausesOf 200000 f.clauses) c.formula-2.view_is c.formula-2.invariant.1) in
    c.solve.ensures.cost 200000 v below

pub returns-in-Unsat-clause-cost : goal.returns-in-Unsat-clause-cost
returns-in-Unsat-clause-cost g c =
    let v : c.in_ok-formula.formula.variables ≤ 200000 = subst (λ (f : Cnf). f.variables ≤ 200000) c.formula-2.view_is c.formula-2.invariant.0 in
    let below : AreBelow 200000 (codes_of c.in_ok-formula.formula.clauses) = clauses_below c.in_ok-formula.formula.clauses (subst (λ (f : Cnf). AreClausesOf 200000 f.clauses) c.formula-2.view_is c.formula-2.invariant.1) in
    c.solve.ensures.cost 200000 v below

pub returns-clause-cost : goal.returns-clause-cost
returns-clause-cost g c =
    let v : c.in_ok-formula.formula.variables ≤ 200000 = subst (λ (f : Cnf). f.variables ≤ 200000) c.formula-2.view_is c.formula-2.invariant.0 in
    let below : AreBelow 200000 (codes_of c.in_ok-formula.formula.clauses) = clauses_below c.in_ok-formula.formula.clauses (subst (λ (f : Cnf). AreClausesOf 200000 f.clauses) c.formula-2.view_is c.formula-2.invariant.1) in
    c.solve.ensures.cost 200000 v below
