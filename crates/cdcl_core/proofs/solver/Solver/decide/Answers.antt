use Rattle.std.proofs.Common.{◌≡◌, ℕ, ◌+◌, ◌*◌, ◌≤◌, List, length, refl, sym, ◌∙◌, subst, arith, ap, length-append, [], ◌∷◌, None}
use Rattle.step_ledger.proofs.Rises.{at_least-stays, at_least-goes_on, at_least-fewer, at_least-ticks}
use Rattle.clause_model.specs.Clauses.{IsAsserting}
use Rattle.cdcl_core.specs.declared.solver.Solver.{Solver}
use Rattle.cdcl_core.specs.Implied.{clauses_of, level_of}
use Rattle.cdcl_core.specs.Searched.{IsBase}
use Rattle.cdcl_core.proofs.Roots.{root_again, root_onto}
use Rattle.cdcl_core.proofs.Learned.{known_there}
use Rattle.cdcl_core.specs.Held.{AreNumbered}
use Rattle.cdcl_core.proofs.Adopted.{base_back}
use Rattle.cdcl_core.proofs.Covered.{all_true, all_asserting, adds_over}
use Rattle.cdcl_core.proofs.Searches.{deciding_begun, model_of, decided_root, decided_rule, later_root, deciding_later, at_conflict, count_variables, bounded_by, known_below, below_bound, root_grows, back_grows, base_forced}
use Rattle.cdcl_core.proofs.Solvers.{IsDecided, decided_on, learnt_on, same_size}
use Rattle.cdcl_core.proofs.solver.Solver.decide.Goals as goal

pub deciding-init : goal.deciding-init
deciding-init g c = (deciding_begun (clauses_of c.args.self.now.arena) (2 * c.args.self.now.variables) c.args.self.now.arena c.args.self.now.refs.items c.args.self.now.reasons.items c.args.self.now.trail c.len-low.result c.requires.ready.base c.requires.rule c.len-low.ensures.value, omega arith, at_least-stays _, refl)

pub pick-requires-clause-bounded : goal.pick-requires-clause-bounded
pick-requires-clause-bounded g c = bounded_by (level_of c.args.self.now.arena c.args.self.now.trail c.len-low.result) c.deciding.self.arena c.deciding.self.reasons.items c.deciding.self.trail (2 * c.deciding.self.variables) c.deciding.invariant.0.root (same_size c.args.self.now c.deciding.self c.deciding.invariant.3 c.requires.ready.base.size_is)

pub returns-in_default-clause-ends : goal.returns-in_default-clause-ends
returns-in_default-clause-ends g c = λ clauses v e. all_true clauses (clauses_of c.args.self.now.arena) c.args.self.now.ids.items c.args.self.now.trail v c.deciding.self.trail (root_grows c.args.self.now.arena c.args.self.now.trail c.len-low.result c.len-low.ensures.value c.deciding.self.arena c.deciding.self.reasons.items c.deciding.self.trail c.deciding.invariant.0.root)
    (model_of (level_of c.args.self.now.arena c.args.self.now.trail c.len-low.result) c.deciding.self.arena c.deciding.self.reasons.items c.deciding.self.trail c.deciding.invariant.0 c.literals-literals.ensures.whole c.len-start.ensures.consistent (λ l b u. c.in_default.ensures.none refl l (below_bound (level_of c.args.self.now.arena c.args.self.now.trail c.len-low.result) c.deciding.self.arena c.deciding.self.reasons.items c.deciding.self.trail (2 * c.deciding.self.variables) l c.deciding.invariant.0.root (same_size c.args.self.now c.deciding.self c.deciding.invariant.3 c.requires.ready.base.size_is) b) u))

pub returns-in_default-clause-cost : goal.returns-in_default-clause-cost
returns-in_default-clause-cost g c =
    let b : length c.deciding.self.trail ≤ c.deciding.self.variables = count_variables c.deciding.self.variables c.deciding.self.trail c.len-start.ensures.consistent c.len-start.ensures.distinct (bounded_by (level_of c.args.self.now.arena c.args.self.now.trail c.len-low.result) c.deciding.self.arena c.deciding.self.reasons.items c.deciding.self.trail (2 * c.deciding.self.variables) c.deciding.invariant.0.root (same_size c.args.self.now c.deciding.self c.deciding.invariant.3 c.requires.ready.base.size_is)) in
    omega (arith, b, c.deciding.invariant.1, ap (λ (s : Solver). s.variables) c.deciding.invariant.3)

pub propagate-requires : goal.propagate-requires
propagate-requires g c =
    let d = decided_root (level_of c.args.self.now.arena c.args.self.now.trail c.len-low.result) c.deciding.self.arena c.deciding.self.reasons.items c.deciding.self.trail c.deciding.invariant.0 c.in-Some.literal (known_below (level_of c.args.self.now.arena c.args.self.now.trail c.len-low.result) c.deciding.self.arena c.deciding.self.reasons.items c.deciding.self.trail (2 * c.deciding.self.variables) c.in-Some.literal c.deciding.invariant.0.root (same_size c.args.self.now c.deciding.self c.deciding.invariant.3 c.requires.ready.base.size_is) c.in-Some.ensures.some.1) c.push.new.self.items c.set.new.self c.in_ok-push.ensures.items c.in_ok-set.ensures.ok in
    let n : length c.set.new.self ≡ length c.deciding.self.trail + 1 = ap length c.in_ok-set.ensures.ok ∙ length-append c.deciding.self.trail (c.in-Some.literal ∷ []) in
    record { aligned = d.aligned; attached = d.attached; known = d.known; literals = d.literals; from = omega (arith, n, c.len-start.ensures.value); rule = decided_rule (level_of c.args.self.now.arena c.args.self.now.trail c.len-low.result) c.deciding.self.arena c.deciding.self.reasons.items c.deciding.self.trail c.deciding.invariant.0 c.in-Some.literal (known_below (level_of c.args.self.now.arena c.args.self.now.trail c.len-low.result) c.deciding.self.arena c.deciding.self.reasons.items c.deciding.self.trail (2 * c.deciding.self.variables) c.in-Some.literal c.deciding.invariant.0.root (same_size c.args.self.now c.deciding.self c.deciding.invariant.3 c.requires.ready.base.size_is) c.in-Some.ensures.some.1) c.push.new.self.items c.set.new.self c.in_ok-push.ensures.items c.in_ok-set.ensures.ok c.len-start.result c.len-start.ensures.value }

pub deciding-preserved : goal.deciding-preserved
deciding-preserved g c =
    let n : length c.set.new.self ≡ length c.deciding.self.trail + 1 = ap length c.in_ok-set.ensures.ok ∙ length-append c.deciding.self.trail (c.in-Some.literal ∷ []) in
    (deciding_later (level_of c.args.self.now.arena c.args.self.now.trail c.len-low.result) c.deciding.self.arena c.deciding.self.reasons.items c.deciding.self.trail c.deciding.invariant.0 c.in-Some.literal (known_below (level_of c.args.self.now.arena c.args.self.now.trail c.len-low.result) c.deciding.self.arena c.deciding.self.reasons.items c.deciding.self.trail (2 * c.deciding.self.variables) c.in-Some.literal c.deciding.invariant.0.root (same_size c.args.self.now c.deciding.self c.deciding.invariant.3 c.requires.ready.base.size_is) c.in-Some.ensures.some.1) c.push.new.self.items c.set.new.self c.in_ok-push.ensures.items c.in_ok-set.ensures.ok c.propagate.new.arena c.propagate.new.reasons.items c.propagate.new.assignment c.in_ok-conflict.ensures.later (c.in_ok-conflict.ensures.done c.in_default-conflict.is), omega (arith, n, c.tick.ensures, c.deciding.invariant.1, c.in_ok-conflict.ensures.later.longer), at_least-goes_on _ _ _ 0 0 c.deciding.invariant.2 (at_least-fewer _ _ 1 0 (omega arith) (at_least-ticks _ _ c.tick.ensures)), decided_on c.args.self.now c.deciding.self _ c.deciding.invariant.3 refl)

pub learn-requires : goal.learn-requires
learn-requires g c =
    let d = later_root (level_of c.args.self.now.arena c.args.self.now.trail c.len-low.result) c.deciding.self.arena c.deciding.self.reasons.items c.deciding.self.trail c.deciding.invariant.0 c.in-Some.literal (known_below (level_of c.args.self.now.arena c.args.self.now.trail c.len-low.result) c.deciding.self.arena c.deciding.self.reasons.items c.deciding.self.trail (2 * c.deciding.self.variables) c.in-Some.literal c.deciding.invariant.0.root (same_size c.args.self.now c.deciding.self c.deciding.invariant.3 c.requires.ready.base.size_is) c.in-Some.ensures.some.1) c.push.new.self.items c.set.new.self c.in_ok-push.ensures.items c.in_ok-set.ensures.ok c.propagate.new.arena c.propagate.new.reasons.items c.propagate.new.assignment c.in_ok-conflict.ensures.later in
    record {
      root = root_again (level_of c.args.self.now.arena c.args.self.now.trail c.len-low.result) c.propagate.new.arena c.propagate.new.reasons.items c.propagate.new.assignment d;
      conflict = at_conflict (level_of c.args.self.now.arena c.args.self.now.trail c.len-low.result) c.deciding.self.arena c.deciding.self.reasons.items c.deciding.self.trail c.deciding.invariant.0 c.in-Some.literal (known_below (level_of c.args.self.now.arena c.args.self.now.trail c.len-low.result) c.deciding.self.arena c.deciding.self.reasons.items c.deciding.self.trail (2 * c.deciding.self.variables) c.in-Some.literal c.deciding.invariant.0.root (same_size c.args.self.now c.deciding.self c.deciding.invariant.3 c.requires.ready.base.size_is) c.in-Some.ensures.some.1) c.push.new.self.items c.set.new.self c.in_ok-push.ensures.items c.in_ok-set.ensures.ok c.propagate.new.arena c.propagate.new.reasons.items c.propagate.new.assignment c.in_ok-conflict.ensures.later c.len-start.result c.in-Some-conflict.conflict c.len-start.ensures.value c.literals-literals.ensures.whole (c.in_ok-conflict.ensures.conflict c.in-Some-conflict.conflict c.in-Some-conflict.is);
      refs = ap (λ (s : Solver). s.refs.items) c.deciding.invariant.3 ∙ (c.requires.ready.base.numbered_by ∙ sym d.references);
      ids = subst (λ (s : Solver). length s.ids.items ≡ length s.refs.items) (sym c.deciding.invariant.3) c.requires.ready.ids;
      size = omega (arith, d.size, c.requires.ready.base.size_is, c.requires.ready.variables);
    }

pub returns-in-Some-conflict-clause-ends : goal.returns-in-Some-conflict-clause-ends
returns-in-Some-conflict-clause-ends g c =
    let held : List (List ℕ) = clauses_of c.args.self.now.arena in
    let d = (later_root (level_of c.args.self.now.arena c.args.self.now.trail c.len-low.result) c.deciding.self.arena c.deciding.self.reasons.items c.deciding.self.trail c.deciding.invariant.0 c.in-Some.literal (known_below (level_of c.args.self.now.arena c.args.self.now.trail c.len-low.result) c.deciding.self.arena c.deciding.self.reasons.items c.deciding.self.trail (2 * c.deciding.self.variables) c.in-Some.literal c.deciding.invariant.0.root (same_size c.args.self.now c.deciding.self c.deciding.invariant.3 c.requires.ready.base.size_is) c.in-Some.ensures.some.1) c.push.new.self.items c.set.new.self c.in_ok-push.ensures.items c.in_ok-set.ensures.ok c.propagate.new.arena c.propagate.new.reasons.items c.propagate.new.assignment c.in_ok-conflict.ensures.later) in
    λ clauses v e. (
      adds_over clauses held c.args.self.now.ids.items c.args.self.now.trail v c.in_ok-line.line c.args.id c.in_ok-line.ensures.id e (λ live a. c.in_ok-line.ensures.tidy live (subst (AreNumbered live (clauses_of c.propagate.new.arena)) (sym (ap (λ (s : Solver). s.ids.items) c.deciding.invariant.3)) (subst (λ (cs : List (List ℕ)). AreNumbered live cs c.args.self.now.ids.items) (sym d.clauses) a))),
      all_asserting clauses held c.args.self.now.ids.items c.args.self.now.trail v (base_forced c.args.self.now.arena c.args.self.now.trail c.len-low.result c.len-low.ensures.value c.propagate.new.arena c.propagate.new.reasons.items c.propagate.new.assignment d) c.in_ok-line.line.literals.items
          (subst (λ (cs : List (List ℕ)). IsAsserting cs c.in_ok-line.line.literals.items) d.clauses c.in_ok-line.ensures.asserting),
    )

pub returns-in-Some-conflict-clause-goes_on : goal.returns-in-Some-conflict-clause-goes_on
returns-in-Some-conflict-clause-goes_on g c =
    let s = c.args.self.now in
    let l = c.learn.new.self in
    let f : IsDecided s l = learnt_on s c.deciding.self l c.save.new.self c.deciding.invariant.3 c.in_ok-line.ensures.fields in
    let d = later_root (level_of c.args.self.now.arena c.args.self.now.trail c.len-low.result) c.deciding.self.arena c.deciding.self.reasons.items c.deciding.self.trail c.deciding.invariant.0 c.in-Some.literal (known_below (level_of c.args.self.now.arena c.args.self.now.trail c.len-low.result) c.deciding.self.arena c.deciding.self.reasons.items c.deciding.self.trail (2 * c.deciding.self.variables) c.in-Some.literal c.deciding.invariant.0.root (same_size c.args.self.now c.deciding.self c.deciding.invariant.3 c.requires.ready.base.size_is) c.in-Some.ensures.some.1) c.push.new.self.items c.set.new.self c.in_ok-push.ensures.items c.in_ok-set.ensures.ok c.propagate.new.arena c.propagate.new.reasons.items c.propagate.new.assignment c.in_ok-conflict.ensures.later in
    let o = root_onto (level_of c.args.self.now.arena c.args.self.now.trail c.len-low.result) c.propagate.new.arena c.propagate.new.reasons.items c.propagate.new.assignment d c.learn.new.self.arena c.learn.new.self.reasons.items c.learn.new.self.trail c.in_ok-line.ensures.root in (
      subst (λ (n : ℕ). IsBase (clauses_of s.arena) n l.arena l.refs.items c.back.new.reasons.items c.back.new.trail None) (same_size s l f c.requires.ready.base.size_is)
          (base_back (level_of c.args.self.now.arena c.args.self.now.trail c.len-low.result) l.arena l.reasons.items c.back.new.reasons.items l.trail c.back.new.trail l.refs.items o (ap (λ (x : Solver). x.refs.items) f ∙ c.requires.ready.base.numbered_by) c.back.ensures.trail c.back.ensures.reasons),
      ap (λ (x : Solver). x.conflict) f ∙ c.requires.none,
      back_grows s.arena s.trail c.len-low.result c.len-low.ensures.value l.arena l.reasons.items l.trail c.back.new.trail o c.back.ensures.trail,
      known_there (level_of c.args.self.now.arena c.args.self.now.trail c.len-low.result) l.arena c.propagate.new.arena c.propagate.new.reasons.items c.propagate.new.assignment c.in_ok-line.line.literals.items d o.size c.in_ok-line.ensures.known,
    )
