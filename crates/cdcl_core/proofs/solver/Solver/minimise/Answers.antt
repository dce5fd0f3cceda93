use Rattle.std.proofs.Common.{ℕ, List, ◌++◌, ◌∙◌, sym, subst, ap}
use Rattle.unit_propagation.specs.Watching.{Rule}
use Rattle.cdcl_core.specs.Implied.{clauses_of, level_of}
use Rattle.cdcl_core.proofs.Falsified.{back_root}
use Rattle.cdcl_core.proofs.Minimised.{kept_refutable, kept_freed, kept_within, kept_begins}
use Rattle.cdcl_core.proofs.Halved.{root_there, known_first, known_rest, clause_needed}
use Rattle.cdcl_core.proofs.solver.Solver.minimise.Goals as goal

pub needed-requires-clause-root : goal.needed-requires-clause-root
needed-requires-clause-root c = (level_of c.args.self.now.arena c.args.self.now.trail c.args.low, back_root (level_of c.args.self.now.arena c.args.self.now.trail c.args.low) c.args.self.now.arena c.args.self.now.reasons.items c.back.new.reasons.items c.args.self.now.trail c.back.new.trail c.requires.root c.back.ensures.trail c.back.ensures.reasons)

pub needed-requires-clause-rule : goal.needed-requires-clause-rule
needed-requires-clause-rule c = subst (Rule c.args.self.now.arena) (sym c.back.ensures.trail) c.requires.root.rule

pub needed-requires-clause-known_denied : goal.needed-requires-clause-known_denied
needed-requires-clause-known_denied c = known_first c.args.self.now.arena c.args.self.now.reasons.items c.back.new.reasons.items c.args.self.now.trail c.back.new.trail c.args.low c.requires.root c.back.ensures.trail c.back.ensures.reasons c.args.kept.now.items c.deref.result.now c.args.rest.now c.deref.ensures.value c.requires.falsifiable c.requires.refutable

pub needed-requires-clause-known : goal.needed-requires-clause-known
needed-requires-clause-known c = known_rest c.args.self.now.arena c.args.self.now.reasons.items c.back.new.reasons.items c.args.self.now.trail c.back.new.trail c.args.low c.requires.root c.back.ensures.trail c.back.ensures.reasons c.args.kept.now.items c.deref.result.now c.args.rest.now c.deref.ensures.value c.requires.falsifiable c.requires.refutable

pub returns-clause-root : goal.returns-clause-root
returns-clause-root c = root_there c.args.self.now.arena c.needed.new.self.arena c.back.new.reasons.items c.needed.new.self.reasons.items c.back.new.trail c.needed.new.self.trail c.in_ok-part.ensures.watches c.in_ok-part.ensures.trail c.in_ok-part.ensures.reasons (level_of c.args.self.now.arena c.args.self.now.trail c.args.low)
    (back_root (level_of c.args.self.now.arena c.args.self.now.trail c.args.low) c.args.self.now.arena c.args.self.now.reasons.items c.back.new.reasons.items c.args.self.now.trail c.back.new.trail c.requires.root c.back.ensures.trail c.back.ensures.reasons)

pub returns-clause-refutable : goal.returns-clause-refutable
returns-clause-refutable c = kept_refutable (clauses_of c.args.self.now.arena) c.args.kept.now.items c.args.rest.now c.in_ok-part.part.items c.extend_from_slice.new.self.items (c.in_ok-extend_from_slice.ensures.items ∙ ap (λ (xs : List ℕ). c.args.kept.now.items ++ xs) c.deref-2.ensures.value) c.in_ok-part.ensures.part (clause_needed c.args.self.now.arena c.args.self.now.reasons.items c.back.new.reasons.items c.args.self.now.trail c.back.new.trail c.args.low c.requires.root c.back.ensures.trail c.back.ensures.reasons c.args.kept.now.items c.deref.result.now c.args.rest.now c.deref.ensures.value c.requires.falsifiable c.requires.refutable c.in_ok-part.part.items c.in_ok-part.ensures.needed)

pub returns-clause-freed : goal.returns-clause-freed
returns-clause-freed c = kept_freed (clauses_of c.args.self.now.arena) c.args.kept.now.items c.args.rest.now c.in_ok-part.part.items c.extend_from_slice.new.self.items (c.in_ok-extend_from_slice.ensures.items ∙ ap (λ (xs : List ℕ). c.args.kept.now.items ++ xs) c.deref-2.ensures.value) c.in_ok-part.ensures.part (clause_needed c.args.self.now.arena c.args.self.now.reasons.items c.back.new.reasons.items c.args.self.now.trail c.back.new.trail c.args.low c.requires.root c.back.ensures.trail c.back.ensures.reasons c.args.kept.now.items c.deref.result.now c.args.rest.now c.deref.ensures.value c.requires.falsifiable c.requires.refutable c.in_ok-part.part.items c.in_ok-part.ensures.needed)

pub returns-clause-subset : goal.returns-clause-subset
returns-clause-subset c = kept_within (clauses_of c.args.self.now.arena) c.args.kept.now.items c.args.rest.now c.in_ok-part.part.items c.extend_from_slice.new.self.items (c.in_ok-extend_from_slice.ensures.items ∙ ap (λ (xs : List ℕ). c.args.kept.now.items ++ xs) c.deref-2.ensures.value) c.in_ok-part.ensures.part (clause_needed c.args.self.now.arena c.args.self.now.reasons.items c.back.new.reasons.items c.args.self.now.trail c.back.new.trail c.args.low c.requires.root c.back.ensures.trail c.back.ensures.reasons c.args.kept.now.items c.deref.result.now c.args.rest.now c.deref.ensures.value c.requires.falsifiable c.requires.refutable c.in_ok-part.part.items c.in_ok-part.ensures.needed)

pub returns-clause-first : goal.returns-clause-first
returns-clause-first c = kept_begins (clauses_of c.args.self.now.arena) c.args.kept.now.items c.args.rest.now c.in_ok-part.part.items c.extend_from_slice.new.self.items (c.in_ok-extend_from_slice.ensures.items ∙ ap (λ (xs : List ℕ). c.args.kept.now.items ++ xs) c.deref-2.ensures.value) c.in_ok-part.ensures.part (clause_needed c.args.self.now.arena c.args.self.now.reasons.items c.back.new.reasons.items c.args.self.now.trail c.back.new.trail c.args.low c.requires.root c.back.ensures.trail c.back.ensures.reasons c.args.kept.now.items c.deref.result.now c.args.rest.now c.deref.ensures.value c.requires.falsifiable c.requires.refutable c.in_ok-part.part.items c.in_ok-part.ensures.needed)
