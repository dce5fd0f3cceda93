use Rattle.std.proofs.Common.{ℕ, List, [], ◌∷◌, ◌++◌, length, take, refl, sym, ◌∙◌, ap, subst, ◌≤◌, arith}
use Rattle.std.specs.Prelude.{All, Contains}
use Rattle.clause_model.specs.Clauses.{IsFalse}
use Rattle.cdcl_core.specs.declared.solver.Solver.{Solver}
use Rattle.cdcl_core.specs.Implied.{clauses_of, level_of, IsRefutable}
use Rattle.cdcl_core.specs.Assumed.{CanFalsify}
use Rattle.cdcl_core.specs.Analysed.{LearnsFrom}
use Rattle.cdcl_core.specs.Held.{AreNumbered}
use Rattle.cdcl_core.proofs.Roots.{root_again, root_onto}
use Rattle.cdcl_core.proofs.Minimised.{falsifiable_here}
use Rattle.cdcl_core.proofs.Learned.{whole_falsifiable, whole_refutable, kept_falsifiable, kept_fresh, learnt_asserting, same_asserting, known_there}
use Rattle.cdcl_core.proofs.solver.Solver.learn.Goals as goal

pub minimise-requires-clause-falsifiable : goal.minimise-requires-clause-falsifiable
minimise-requires-clause-falsifiable c = whole_falsifiable c.args.self.now.arena c.args.self.now.reasons.items c.args.self.now.trail c.args.low c.args.start c.args.conflict c.requires.root c.requires.conflict c.len-trues.ensures.consistent c.in_ok-literal.literal c.deref.result.now (subst (λ (xs : List ℕ). LearnsFrom (clauses_of c.args.self.now.arena) c.args.self.now.trail c.args.low c.args.start c.in_ok-literal.literal xs) (sym c.deref.ensures.value) c.in_ok-literal.ensures) c.push.new.self.items (c.in_ok-push.ensures.items ∙ ap (λ (xs : List ℕ). xs ++ c.in_ok-literal.literal ∷ []) c.new-literals.ensures.items)

pub minimise-requires-clause-refutable : goal.minimise-requires-clause-refutable
minimise-requires-clause-refutable c = whole_refutable c.args.self.now.arena c.args.self.now.reasons.items c.args.self.now.trail c.args.low c.args.start c.args.conflict c.requires.root c.requires.conflict c.len-trues.ensures.consistent c.in_ok-literal.literal c.deref.result.now (subst (λ (xs : List ℕ). LearnsFrom (clauses_of c.args.self.now.arena) c.args.self.now.trail c.args.low c.args.start c.in_ok-literal.literal xs) (sym c.deref.ensures.value) c.in_ok-literal.ensures) c.push.new.self.items (c.in_ok-push.ensures.items ∙ ap (λ (xs : List ℕ). xs ++ c.in_ok-literal.literal ∷ []) c.new-literals.ensures.items)

pub certify-requires-clause-root : goal.certify-requires-clause-root
certify-requires-clause-root c = root_again (level_of c.args.self.now.arena c.args.self.now.trail c.args.low) c.minimise.new.self.arena c.minimise.new.self.reasons.items c.minimise.new.self.trail c.in_ok-minimise.ensures.root

pub certify-requires-clause-refs : goal.certify-requires-clause-refs
certify-requires-clause-refs c = ap (λ (s : Solver). s.refs.items) c.in_ok-minimise.ensures.fields ∙ (c.requires.refs ∙ sym c.in_ok-minimise.ensures.root.references)

pub certify-requires-clause-size : goal.certify-requires-clause-size
certify-requires-clause-size c = let b : length c.args.self.now.arena.chains ≤ 400000 = c.requires.size in omega (arith, b, c.in_ok-minimise.ensures.root.size)

pub certify-requires-clause-falsifiable : goal.certify-requires-clause-falsifiable
certify-requires-clause-falsifiable c = subst (λ (xs : List ℕ). CanFalsify (length c.minimise.new.self.arena.chains) (take c.args.low c.minimise.new.self.trail) xs) (sym c.deref-2.ensures.value)
    (falsifiable_here (level_of c.args.self.now.arena c.args.self.now.trail c.args.low) c.minimise.new.self.arena c.minimise.new.self.reasons.items c.minimise.new.self.trail c.minimise.new.kept.items c.in_ok-minimise.ensures.root (kept_falsifiable c.args.self.now.arena c.args.self.now.reasons.items c.args.self.now.trail c.args.low c.args.start c.args.conflict c.requires.root c.requires.conflict c.len-trues.ensures.consistent c.in_ok-literal.literal c.deref.result.now (subst (λ (xs : List ℕ). LearnsFrom (clauses_of c.args.self.now.arena) c.args.self.now.trail c.args.low c.args.start c.in_ok-literal.literal xs) (sym c.deref.ensures.value) c.in_ok-literal.ensures) c.push.new.self.items (c.in_ok-push.ensures.items ∙ ap (λ (xs : List ℕ). xs ++ c.in_ok-literal.literal ∷ []) c.new-literals.ensures.items) c.minimise.new.kept.items c.in_ok-minimise.ensures.subset c.in_ok-minimise.ensures.freed c.in_ok-minimise.ensures.first))

pub certify-requires-clause-refutable : goal.certify-requires-clause-refutable
certify-requires-clause-refutable c = subst (IsRefutable (clauses_of c.minimise.new.self.arena)) (sym c.deref-2.ensures.value) (subst (λ (cs : List (List ℕ)). IsRefutable cs c.minimise.new.kept.items) (sym c.in_ok-minimise.ensures.root.clauses) c.in_ok-minimise.ensures.refutable)

pub certify-requires-clause-fresh : goal.certify-requires-clause-fresh
certify-requires-clause-fresh c = subst (λ (xs : List ℕ). All (λ l. IsFalse (take c.args.low c.minimise.new.self.trail) l → ⊥) xs) (sym c.deref-2.ensures.value)
    (subst (λ (a : List ℕ). All (λ l. IsFalse a l → ⊥) c.minimise.new.kept.items) (sym c.in_ok-minimise.ensures.root.base) (kept_fresh c.args.self.now.arena c.args.self.now.reasons.items c.args.self.now.trail c.args.low c.args.start c.args.conflict c.requires.root c.requires.conflict c.len-trues.ensures.consistent c.in_ok-literal.literal c.deref.result.now (subst (λ (xs : List ℕ). LearnsFrom (clauses_of c.args.self.now.arena) c.args.self.now.trail c.args.low c.args.start c.in_ok-literal.literal xs) (sym c.deref.ensures.value) c.in_ok-literal.ensures) c.push.new.self.items (c.in_ok-push.ensures.items ∙ ap (λ (xs : List ℕ). xs ++ c.in_ok-literal.literal ∷ []) c.new-literals.ensures.items) c.minimise.new.kept.items c.in_ok-minimise.ensures.subset c.in_ok-minimise.ensures.freed c.in_ok-minimise.ensures.first))

pub returns-clause-root : goal.returns-clause-root
returns-clause-root c = root_onto (level_of c.args.self.now.arena c.args.self.now.trail c.args.low) c.minimise.new.self.arena c.minimise.new.self.reasons.items c.minimise.new.self.trail c.in_ok-minimise.ensures.root c.certify.new.self.arena c.certify.new.self.reasons.items c.certify.new.self.trail c.in_ok-line.ensures.root

pub returns-clause-known : goal.returns-clause-known
returns-clause-known c = known_there (level_of c.args.self.now.arena c.args.self.now.trail c.args.low) c.args.self.now.arena c.minimise.new.self.arena c.minimise.new.self.reasons.items c.minimise.new.self.trail c.in_ok-line.line.literals.items c.in_ok-minimise.ensures.root refl c.in_ok-line.ensures.known

pub returns-clause-asserting : goal.returns-clause-asserting
returns-clause-asserting c = same_asserting (clauses_of c.args.self.now.arena) c.minimise.new.kept.items c.in_ok-line.line.literals.items
    (subst (λ (xs : List ℕ). All (Contains xs) c.in_ok-line.line.literals.items) c.deref-2.ensures.value c.in_ok-line.ensures.part)
    (subst (λ (xs : List ℕ). All (Contains c.in_ok-line.line.literals.items) xs) c.deref-2.ensures.value c.in_ok-line.ensures.whole)
    (learnt_asserting c.args.self.now.arena c.args.self.now.reasons.items c.args.self.now.trail c.args.low c.args.start c.args.conflict c.requires.root c.requires.conflict c.len-trues.ensures.consistent c.in_ok-literal.literal c.deref.result.now (subst (λ (xs : List ℕ). LearnsFrom (clauses_of c.args.self.now.arena) c.args.self.now.trail c.args.low c.args.start c.in_ok-literal.literal xs) (sym c.deref.ensures.value) c.in_ok-literal.ensures) c.push.new.self.items (c.in_ok-push.ensures.items ∙ ap (λ (xs : List ℕ). xs ++ c.in_ok-literal.literal ∷ []) c.new-literals.ensures.items) c.minimise.new.kept.items c.in_ok-minimise.ensures.subset c.in_ok-minimise.ensures.freed c.in_ok-minimise.ensures.first)

pub returns-clause-tidy : goal.returns-clause-tidy
returns-clause-tidy c = λ live a. c.in_ok-line.ensures.tidy live (subst (AreNumbered live (clauses_of c.minimise.new.self.arena)) (sym (ap (λ (s : Solver). s.ids.items) c.in_ok-minimise.ensures.fields)) (subst (λ (cs : List (List ℕ)). AreNumbered live cs c.args.self.now.ids.items) (sym c.in_ok-minimise.ensures.root.clauses) a))
