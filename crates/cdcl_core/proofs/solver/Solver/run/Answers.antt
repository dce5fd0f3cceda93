use Rattle.std.proofs.Common.{◌≡◌, ℕ, ◌+◌, ◌*◌, ◌<◌, ◌≤◌, List, [], ◌∷◌, length, length-append, inr, ap, refl, sym, subst, ◌∙◌, arith}
use Rattle.std.specs.Prelude.{All, Contains, map}
use Rattle.std.proofs.lemmas.List.{length-map}
use Rattle.step_ledger.specs.Counts.{RisesByAtLeast}
use Rattle.step_ledger.proofs.Rises.{at_least-stays, at_least-fewer, at_least-goes_on}
use Rattle.clause_model.specs.Clauses.{code_of, codes_of}
use Rattle.lrat_check.specs.declared.line.Line.TheVariants.{Addition as Adding}
use Rattle.cdcl_core.specs.declared.solver.Solver.{Solver}
use Rattle.cdcl_core.specs.declared.search.Ending.{Ending}
use Rattle.cdcl_core.specs.Costs.{conflicts_in}
use Rattle.cdcl_core.specs.Implied.{clauses_of}
use Rattle.cdcl_core.specs.Held.{Covers}
use Rattle.cdcl_core.specs.Searched.{EndsOver, GoesOn, HasBase}
use Rattle.cdcl_core.specs.Solved.{AreBelow, with_log}
use Rattle.cdcl_core.proofs.Adopted.{base_here}
use Rattle.cdcl_core.proofs.Covered.{covers_grown}
use Rattle.cdcl_core.proofs.Statements.{model_true, values_for, filled_formula}
use Rattle.cdcl_core.proofs.Logs.{asserting_some, formula_holds, next_id, refuted, running_aligned, running_begun, running_more}
use Rattle.cdcl_core.proofs.solver.Solver.run.Goals as goal
use Rattle.common_lemmas.proofs.Numbers.{one_more_times}

pub search-requires : goal.search-requires
search-requires g c = record {
  base = c.loop-round.invariant.0.base;
  ids = running_aligned (codes_of c.args.formula.now.clauses) c.loop-round.self c.loop-round.log.items c.loop-round.round c.loop-round.invariant.0;
  variables = subst (λ (n : ℕ). n ≤ 200000) (sym c.loop-round.invariant.3) c.requires.loaded.variables;
}

pub loop-round-init : goal.loop-round-init
loop-round-init g c = (
  running_begun (codes_of c.args.formula.now.clauses) c.args.self.now c.new-log.result.items c.requires.loaded.base c.requires.loaded.covers c.new-log.ensures.items,
  omega arith,
  rw c.new-log.ensures.items (at_least-stays _),
  refl,
)

pub drop_true-requires : goal.drop_true-requires
drop_true-requires g c =
    let w = subst (GoesOn c.loop-round.self c.search.new.self) c.in-Taught.is c.in_ok-search.ensures.goes_on in
    let f = c.in_ok-search.ensures.fields in
    record {
      base = base_here w.0;
      ids = subst (λ (s : Solver). length s.ids.items ≡ length s.refs.items) (sym f) (running_aligned (codes_of c.args.formula.now.clauses) c.loop-round.self c.loop-round.log.items c.loop-round.round c.loop-round.invariant.0);
      variables = subst (λ (n : ℕ). n ≤ 200000) (sym (ap (λ (s : Solver). s.variables) f ∙ c.loop-round.invariant.3)) c.requires.loaded.variables;
    }

pub adopt-requires-clause-base : goal.adopt-requires-clause-base
adopt-requires-clause-base g c =
    let w = subst (GoesOn c.loop-round.self c.search.new.self) c.in-Taught.is c.in_ok-search.ensures.goes_on in
    subst (HasBase (clauses_of c.drop_true.new.self.arena) c.drop_true.new.self) (sym (ap (λ (s : Solver). s.conflict) c.in_ok-drop_true-in-Taught.ensures.fields ∙ w.1)) c.in_ok-drop_true-in-Taught.ensures.base

pub adopt-requires-clause-known : goal.adopt-requires-clause-known
adopt-requires-clause-known g c =
    let w = subst (GoesOn c.loop-round.self c.search.new.self) c.in-Taught.is c.in_ok-search.ensures.goes_on in
    let size : length c.drop_true.new.self.arena.chains ≡ length c.search.new.self.arena.chains = c.in_ok-drop_true-in-Taught.ensures.base.size_is ∙ (ap (λ (s : Solver). 2 * s.variables) c.in_ok-drop_true-in-Taught.ensures.fields ∙ sym w.0.size_is) in
    let known : All (λ l. l < length c.drop_true.new.self.arena.chains) c.in-Taught.line.literals.items = subst (λ (n : ℕ). All (λ l. l < n) c.in-Taught.line.literals.items) (sym size) w.3 in
    subst (λ (ls : List ℕ). All (λ l. l < length c.drop_true.new.self.arena.chains) ls) (sym (c.deref.ensures.value ∙ c.in_ok-literals-in-Taught.ensures)) known

pub adopt-requires-clause-some : goal.adopt-requires-clause-some
adopt-requires-clause-some g c =
    let clauses : List (List ℕ) = with_log (codes_of c.args.formula.now.clauses) c.loop-round.log.items in
    let all = subst (EndsOver (clauses_of c.loop-round.self.arena) c.loop-round.self.ids.items c.loop-round.self.trail c.new-id.result c.search.new.self.trail) c.in-Taught.is c.in_ok-search.ensures.ends in
    let t = all clauses c.loop-round.invariant.0.covers (next_id (codes_of c.args.formula.now.clauses) c.loop-round.self c.loop-round.log.items c.loop-round.round c.loop-round.invariant.0 c.new-id.result (omega (arith, c.new-id.ensures, c.clauses.ensures, length-map c.args.formula.now.clauses (map code_of)))) in
    asserting_some clauses c.in-Taught.line.literals.items c.deref.result.now (c.deref.ensures.value ∙ c.in_ok-literals-in-Taught.ensures) t.1

pub returns-in-Model-clause-verdict : goal.returns-in-Model-clause-verdict
returns-in-Model-clause-verdict g c =
    let formula = c.args.formula.now in
    let n : ℕ = c.search.new.self.variables in
    let same : n ≡ c.args.self.now.variables = ap (λ (s : Solver). s.variables) c.in_ok-search.ensures.fields ∙ c.loop-round.invariant.3 in
    let below : AreBelow n (codes_of formula.clauses) = subst (λ (k : ℕ). AreBelow k (codes_of formula.clauses)) (sym same) c.requires.loaded.below in
    let all = subst (EndsOver (clauses_of c.loop-round.self.arena) c.loop-round.self.ids.items c.loop-round.self.trail c.new-id.result c.search.new.self.trail) c.in-Model.is c.in_ok-search.ensures.ends in
    let m = all (with_log (codes_of formula.clauses) c.loop-round.log.items) c.loop-round.invariant.0.covers (next_id (codes_of c.args.formula.now.clauses) c.loop-round.self c.loop-round.log.items c.loop-round.round c.loop-round.invariant.0 c.new-id.result (omega (arith, c.new-id.ensures, c.clauses.ensures, length-map c.args.formula.now.clauses (map code_of)))) in
    let model = model_true c.in_ok-model-in-Model.model n c.search.new.self.trail c.len-trues.ensures.consistent c.in_ok-model-in-Model.ensures.values formula.clauses c.requires.literals below (formula_holds (codes_of c.args.formula.now.clauses) c.loop-round.self c.loop-round.log.items c.loop-round.round c.loop-round.invariant.0 c.search.new.self.trail m) in
    (model, values_for c.in_ok-model-in-Model.model n formula c.in_ok-model-in-Model.ensures.count (subst (λ (k : ℕ). formula.variables ≤ k) (sym same) c.requires.loaded.reached) below)

pub returns-in-Refuted-clause-verdict : goal.returns-in-Refuted-clause-verdict
returns-in-Refuted-clause-verdict g c =
    let all = subst (EndsOver (clauses_of c.loop-round.self.arena) c.loop-round.self.ids.items c.loop-round.self.trail c.new-id.result c.search.new.self.trail) c.in-Refuted.is c.in_ok-search.ensures.ends in
    let r = all (with_log (codes_of c.args.formula.now.clauses) c.loop-round.log.items) c.loop-round.invariant.0.covers (next_id (codes_of c.args.formula.now.clauses) c.loop-round.self c.loop-round.log.items c.loop-round.round c.loop-round.invariant.0 c.new-id.result (omega (arith, c.new-id.ensures, c.clauses.ensures, length-map c.args.formula.now.clauses (map code_of)))) in
    let n : length c.push.new.self.items ≡ length c.loop-round.log.items + 1 = ap length c.in_ok-push-in-Refuted.ensures.items ∙ length-append c.loop-round.log.items (Adding c.in-Refuted.line ∷ []) in
    (omega (arith, n, c.loop-round.invariant.0.count, c.loop-round-test.true), inr (refuted (codes_of c.args.formula.now.clauses) c.loop-round.self c.loop-round.log.items c.loop-round.round c.loop-round.invariant.0 c.in-Refuted.line c.push.new.self.items c.in_ok-push-in-Refuted.ensures.items r), λ e. absurd (filled_formula c.args.formula.now c.requires.filled e))

pub loop-round-preserved : goal.loop-round-preserved
loop-round-preserved g c =
    let s = c.search.new.self in
    let d = c.drop_true.new.self in
    let f = c.in_ok-search.ensures.fields in
    let h = c.in_ok-drop_true-in-Taught.ensures.fields in
    let one = subst (λ (e : Ending). RisesByAtLeast c.loop-round.steps c.search.new.steps (conflicts_in e)) c.in-Taught.is c.in_ok-search.ensures.rises in
    let longer : length c.push-in-Taught.new.self.items ≡ length c.loop-round.log.items + 1 = ap length c.in_ok-push-in-Taught.ensures.items ∙ length-append c.loop-round.log.items (Adding c.in-Taught.line ∷ []) in
    let clauses : List (List ℕ) = with_log (codes_of c.args.formula.now.clauses) c.loop-round.log.items in
    let all = subst (EndsOver (clauses_of c.loop-round.self.arena) c.loop-round.self.ids.items c.loop-round.self.trail c.new-id.result c.search.new.self.trail) c.in-Taught.is c.in_ok-search.ensures.ends in
    let t = all clauses c.loop-round.invariant.0.covers (next_id (codes_of c.args.formula.now.clauses) c.loop-round.self c.loop-round.log.items c.loop-round.round c.loop-round.invariant.0 c.new-id.result (omega (arith, c.new-id.ensures, c.clauses.ensures, length-map c.args.formula.now.clauses (map code_of)))) in
    let w = subst (GoesOn c.loop-round.self c.search.new.self) c.in-Taught.is c.in_ok-search.ensures.goes_on in
    let searched : Covers clauses (clauses_of s.arena) s.ids.items s.trail = subst (λ (cs : List (List ℕ)). Covers clauses cs s.ids.items s.trail) (sym w.0.clauses_are)
    (subst (λ (ns : List ℕ). Covers clauses (clauses_of c.loop-round.self.arena) ns s.trail) (sym (ap (λ (x : Solver). x.ids.items) f)) (covers_grown clauses (clauses_of c.loop-round.self.arena) c.loop-round.self.ids.items c.loop-round.self.trail c.loop-round.invariant.0.covers s.trail w.2)) in
    let dropped : Covers clauses (clauses_of d.arena) d.ids.items s.trail = c.in_ok-drop_true-in-Taught.ensures.covers clauses searched in (
      running_more (codes_of c.args.formula.now.clauses) c.loop-round.self c.loop-round.log.items c.loop-round.round c.loop-round.invariant.0 c.in-Taught.line c.deref.result.now c.push-in-Taught.new.self.items c.new-id.result c.in_ok-push-in-Taught.ensures.items
          (c.deref.ensures.value ∙ c.in_ok-literals-in-Taught.ensures) (omega (arith, c.new-id.ensures, c.clauses.ensures, length-map c.args.formula.now.clauses (map code_of))) t (clauses_of d.arena) d.ids.items s.trail dropped
          c.adopt.new.self c.in_ok-adopt-in-Taught.ensures.ids (subst (All (Contains c.adopt.new.self.trail)) (ap (λ (x : Solver). x.trail) h) c.in_ok-adopt-in-Taught.ensures.grows) c.in_ok-adopt-in-Taught.ensures.base,
      omega (arith, c.search.ensures.cost, c.loop-round.invariant.1, c.loop-round.invariant.3, one_more_times c.loop-round.round (c.args.self.now.variables + 1)),
      rw longer (at_least-goes_on _ _ _ (length c.loop-round.log.items) 1 c.loop-round.invariant.2 one),
      c.in_ok-adopt-in-Taught.ensures.variables ∙ (ap (λ (x : Solver). x.variables) h ∙ (ap (λ (x : Solver). x.variables) f ∙ c.loop-round.invariant.3)),
    )

pub returns-in-Model-clause-rises : goal.returns-in-Model-clause-rises
returns-in-Model-clause-rises g c =
    let none = subst (λ (e : Ending). RisesByAtLeast c.loop-round.steps c.search.new.steps (conflicts_in e)) c.in-Model.is c.in_ok-search.ensures.rises in
    at_least-fewer _ _ (length c.loop-round.log.items + 0) 0 (omega arith) (at_least-goes_on _ _ _ (length c.loop-round.log.items) 0 c.loop-round.invariant.2 none)

pub returns-in-Refuted-clause-rises : goal.returns-in-Refuted-clause-rises
returns-in-Refuted-clause-rises g c =
    let one = subst (λ (e : Ending). RisesByAtLeast c.loop-round.steps c.search.new.steps (conflicts_in e)) c.in-Refuted.is c.in_ok-search.ensures.rises in
    let longer : length c.push.new.self.items ≡ length c.loop-round.log.items + 1 = ap length c.in_ok-push-in-Refuted.ensures.items ∙ length-append c.loop-round.log.items (Adding c.in-Refuted.line ∷ []) in
    rw longer (at_least-goes_on _ _ _ (length c.loop-round.log.items) 1 c.loop-round.invariant.2 one)
