use Rattle.std.proofs.Common.{ℕ, ◌*◌, ◌∙◌, ap, refl, subst, arith, List, ℤ}
use Rattle.std.proofs.lemmas.List.{take_all}
use Rattle.clause_model.specs.Clauses.{codes_of}
use Rattle.cdcl_core.specs.Held.{Covers}
use Rattle.cdcl_core.specs.Searched.{HasBase}
use Rattle.cdcl_core.proofs.Covered.{covers_none}
use Rattle.cdcl_core.proofs.Statements.{loaded, loaded_covers, loads_known, loads_some}
use Rattle.cdcl_core.proofs.solver.Solver.load.Goals as goal

pub adopt-requires-clause-some : goal.adopt-requires-clause-some
adopt-requires-clause-some c = loads_some c.args.formula.now.clauses c.loop-i.i c.clause.result.now c.write_codes.new.codes.items c.deref.result.now c.clause.ensures.clause c.deref.ensures.value c.in_ok-write_codes.ensures c.requires.filled

pub adopt-requires-clause-known : goal.adopt-requires-clause-known
adopt-requires-clause-known c = loads_known c.args.formula.now.clauses c.loop-i.i c.clause.result.now c.write_codes.new.codes.items c.deref.result.now (2 * c.args.self.now.variables) c.loop-i.self.arena c.clause.ensures.clause c.deref.ensures.value c.in_ok-write_codes.ensures (c.loop-i.invariant.0.size_is ∙ ap (λ (n : ℕ). 2 * n) c.loop-i.invariant.2) c.requires.known

pub loop-i-init : goal.loop-i-init
loop-i-init c = (c.requires.base, rw c.requires.ids (covers_none c.args.self.now.trail), refl)

pub loop-i-preserved : goal.loop-i-preserved
loop-i-preserved c = (
  loaded c.args.formula.now.clauses c.loop-i.i c.clause.result.now c.write_codes.new.codes.items c.deref.result.now c.loop-i.self c.adopt.new.self c.clause.ensures.clause c.deref.ensures.value c.in_ok-write_codes.ensures c.loop-i.invariant.0 c.in_ok-adopt.ensures.base,
  loaded_covers c.args.formula.now.clauses c.loop-i.i c.clause.result.now c.new-id.result c.loop-i.self.ids.items c.adopt.new.self.ids.items c.loop-i.self.trail c.adopt.new.self.trail c.clause.ensures.clause c.new-id.ensures c.in_ok-adopt.ensures.ids c.in_ok-adopt.ensures.grows c.loop-i.invariant.1,
  c.in_ok-adopt.ensures.variables ∙ c.loop-i.invariant.2,
)

pub returns-clause-base : goal.returns-clause-base
returns-clause-base c = subst (λ (cs : List (List ℤ)). HasBase (codes_of cs) c.loop-i.self c.loop-i.self.conflict) (take_all c.loop-i.i c.args.formula.now.clauses (omega (arith, c.loop-i-test.false, c.clauses-i-end.ensures))) c.loop-i.invariant.0

pub returns-clause-covers : goal.returns-clause-covers
returns-clause-covers c = subst (λ (cs : List (List ℤ)). Covers (codes_of cs) (codes_of cs) c.loop-i.self.ids.items c.loop-i.self.trail) (take_all c.loop-i.i c.args.formula.now.clauses (omega (arith, c.loop-i-test.false, c.clauses-i-end.ensures))) c.loop-i.invariant.1
