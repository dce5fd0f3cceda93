use Rattle.std.proofs.Common.{◌≡◌, ℕ, ◌*◌, ◌<◌, length, get_or, inl, inr, refl, sym, ◌∙◌, ap, subst, [], ◌∷◌, ◌++◌}
use Rattle.std.specs.Prelude.{Contains}
use Rattle.std.proofs.lemmas.List.{get_or_default}
use Rattle.clause_model.specs.Clauses.{negated, IsUnset}
use Rattle.clause_model.proofs.Scans.{never}
use Rattle.cdcl_core.specs.Implied.{clauses_of}
use Rattle.cdcl_core.proofs.Adopted.{any_first, first_in, all_false_one, base_covered, base_false, base_unit, same_grows, push_grows, watched_new}
use Rattle.cdcl_core.proofs.solver.Solver.adopt.Goals as goal

pub returns-then-is_true-clause-base : goal.returns-then-is_true-clause-base
returns-then-is_true-clause-base c =
    let l : ℕ = get_or c.args.literals.now 0 0 in
    let b : 0 < length c.args.literals.now = c.requires.some in
    let e : l ≡ get_or c.args.literals.now 0 l = get_or_default c.args.literals.now 0 0 l b in
    base_covered (clauses_of c.args.self.now.arena) (2 * c.args.self.now.variables) c.args.self.now.arena c.args.self.now.refs.items c.args.self.now.reasons.items c.args.self.now.trail c.args.self.now.conflict c.requires.base c.store.new.arena c.in_ok-at-in-None.at c.args.literals.now c.in_ok-at-in-None.ensures c.requires.known c.literals-whole-in-None.ensures.whole c.push-in-None.new.self.items c.in_ok-push-in-None.ensures.items (inr (any_first c.args.self.now.trail c.args.literals.now l c.from_code-literal.result e b c.from_code-literal.ensures (c.if-is_true.ensures.0 refl)))

pub returns-then-is_true-2-clause-base : goal.returns-then-is_true-2-clause-base
returns-then-is_true-2-clause-base c =
    let l : ℕ = get_or c.args.literals.now 0 0 in
    let b : 0 < length c.args.literals.now = c.requires.some in
    let e : l ≡ get_or c.args.literals.now 0 l = get_or_default c.args.literals.now 0 0 l b in
    base_false (clauses_of c.args.self.now.arena) (2 * c.args.self.now.variables) c.args.self.now.arena c.args.self.now.refs.items c.args.self.now.reasons.items c.args.self.now.trail c.args.self.now.conflict c.requires.base c.store.new.arena c.in_ok-at-in-None.at c.args.literals.now c.in_ok-at-in-None.ensures c.requires.known c.literals-whole-in-None.ensures.whole c.push-in-None.new.self.items c.in_ok-push-in-None.ensures.items (all_false_one c.args.self.now.trail c.args.literals.now l c.from_code-literal.result c.negated.result (c.in-None.ensures.none refl) c.from_code-literal.ensures c.negated.ensures (c.if-is_true-2.ensures.0 refl))

pub returns-in_ok-push-in-Some-clause-base : goal.returns-in_ok-push-in-Some-clause-base
returns-in_ok-push-in-Some-clause-base c =
    let l : ℕ = get_or c.args.literals.now 0 0 in
    let b : 0 < length c.args.literals.now = c.requires.some in
    let e : l ≡ get_or c.args.literals.now 0 l = get_or_default c.args.literals.now 0 0 l b in
    base_covered (clauses_of c.args.self.now.arena) (2 * c.args.self.now.variables) c.args.self.now.arena c.args.self.now.refs.items c.args.self.now.reasons.items c.args.self.now.trail c.args.self.now.conflict c.requires.base c.attach.new.arena c.in_ok-at-in-Some.at c.args.literals.now c.in_ok-at-in-Some.ensures.added c.requires.known c.literals-whole.ensures.whole c.push-in-Some.new.self.items c.in_ok-push-in-Some.ensures.items
    (inl (watched_new c.args.self.now.arena c.attach.new.arena c.in_ok-at-in-Some.at c.args.literals.now l c.in-Some.second c.in_ok-at-in-Some.ensures.added c.in_ok-at-in-Some.ensures.first c.in_ok-at-in-Some.ensures.second c.in-Some.ensures.some.1 (first_in c.args.literals.now l e b) c.in-Some.ensures.some.0))

pub returns-in_ok-push-in-None-2-clause-base : goal.returns-in_ok-push-in-None-2-clause-base
returns-in_ok-push-in-None-2-clause-base c =
    let l : ℕ = get_or c.args.literals.now 0 0 in
    let b : 0 < length c.args.literals.now = c.requires.some in
    let e : l ≡ get_or c.args.literals.now 0 l = get_or_default c.args.literals.now 0 0 l b in
    let unset : IsUnset c.args.self.now.trail l = (
      λ p. never c.if-is_true.ensures.1 (subst (Contains c.args.self.now.trail) (sym c.from_code-literal.ensures) p),
      λ p. never c.if-is_true-2.ensures.1 (subst (Contains c.args.self.now.trail) (sym (c.negated.ensures ∙ ap negated c.from_code-literal.ensures)) p),
    ) in
    base_unit (clauses_of c.args.self.now.arena) (2 * c.args.self.now.variables) c.args.self.now.arena c.args.self.now.refs.items c.args.self.now.reasons.items c.args.self.now.trail c.args.self.now.conflict c.requires.base c.store.new.arena c.in_ok-at-in-None.at c.args.literals.now c.in_ok-at-in-None.ensures c.requires.known c.literals-whole-in-None.ensures.whole c.push-in-None.new.self.items c.in_ok-push-in-None.ensures.items l (first_in c.args.literals.now l e b) (c.in-None.ensures.none refl) unset c.push-in-None-2.new.self.items c.set.new.self c.in_ok-push-in-None-2.ensures.items
    (c.in_ok-set-in-None.ensures.ok ∙ ap (λ (x : ℕ). c.args.self.now.trail ++ x ∷ []) c.from_code-literal.ensures)

pub returns-then-is_true-clause-grows : goal.returns-then-is_true-clause-grows
returns-then-is_true-clause-grows c = same_grows c.args.self.now.trail

pub returns-then-is_true-2-clause-grows : goal.returns-then-is_true-2-clause-grows
returns-then-is_true-2-clause-grows c = same_grows c.args.self.now.trail

pub returns-in_ok-push-in-Some-clause-grows : goal.returns-in_ok-push-in-Some-clause-grows
returns-in_ok-push-in-Some-clause-grows c = same_grows c.args.self.now.trail

pub returns-in_ok-push-in-None-2-clause-grows : goal.returns-in_ok-push-in-None-2-clause-grows
returns-in_ok-push-in-None-2-clause-grows c = push_grows c.args.self.now.trail c.set.new.self c.from_code-literal.result c.in_ok-set-in-None.ensures.ok
