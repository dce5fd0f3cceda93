use Rattle.std.proofs.Common.{◌≡◌, ℕ, List, [], ◌∷◌, ◌++◌, subst, Some}
use Rattle.std.specs.Prelude.{All}
use Rattle.clause_model.specs.Clauses.{IsFalse}
use Rattle.clause_arena.specs.Contents.{Content, HasClause, chain_of, literals_of}
use Rattle.unit_propagation.proofs.Steps.{later_after, part_of_longer}
use Rattle.unit_propagation.proofs.Walks.{on_start, on_end, rest, after, stands_now, on_kept, on_moved, smaller, known_later}
use Rattle.unit_propagation.proofs.watching.walk.Goals as goal

pub loop-next-init : goal.loop-next-init
loop-next-init c = ([], (chain_of c.args.arena.now c.args.falsified, on_start c.args.arena.now c.args.assignment.now c.args.reasons.now.items c.requires.aligned c.args.falsified c.first_watch-next.result c.requires.whole c.requires.literal c.first_watch-next.ensures.chain))

pub following-next-requires : goal.following-next-requires
following-next-requires c = (c.args.falsified, stands_now c.args.arena.now c.args.assignment.now c.args.reasons.now.items c.loop-next.arena c.loop-next.assignment c.loop-next.reasons.items c.args.falsified c.loop-next.before c.loop-next.next c.loop-next.invariant.0 c.loop-next.invariant.1.0 c.loop-next.invariant.1.1 c.in-Some.watch c.in-Some.is)

pub visit-requires-clause-aligned : goal.visit-requires-clause-aligned
visit-requires-clause-aligned c = c.loop-next.invariant.1.1.on.aligned

pub visit-requires-clause-attached : goal.visit-requires-clause-attached
visit-requires-clause-attached c = c.loop-next.invariant.1.1.on.attached c.requires.attached

pub visit-requires-clause-known : goal.visit-requires-clause-known
visit-requires-clause-known c = known_later c.args.arena.now c.loop-next.arena c.loop-next.invariant.1.1.on.clauses c.loop-next.invariant.1.1.on.size c.requires.known

pub visit-requires-clause-falsified : goal.visit-requires-clause-falsified
visit-requires-clause-falsified c = part_of_longer c.args.assignment.now c.loop-next.assignment c.loop-next.invariant.1.1.on.prefix _ c.requires.falsified

pub visit-requires-clause-after : goal.visit-requires-clause-after
visit-requires-clause-after c = (c.loop-next.invariant.0, (rest c.args.arena.now c.args.assignment.now c.args.reasons.now.items c.loop-next.arena c.loop-next.assignment c.loop-next.reasons.items c.args.falsified c.loop-next.before c.loop-next.next c.loop-next.invariant.0 c.loop-next.invariant.1.0 c.loop-next.invariant.1.1 c.in-Some.watch c.in-Some.is, after c.args.arena.now c.args.assignment.now c.args.reasons.now.items c.loop-next.arena c.loop-next.assignment c.loop-next.reasons.items c.args.falsified c.loop-next.before c.loop-next.next c.loop-next.invariant.0 c.loop-next.invariant.1.0 c.loop-next.invariant.1.1 c.in-Some.watch c.in-Some.is))

pub returns-in-Conflict-clause-later : goal.returns-in-Conflict-clause-later
returns-in-Conflict-clause-later c = later_after c.args.arena.now c.loop-next.arena c.visit.new.arena c.args.assignment.now c.loop-next.assignment c.visit.new.assignment c.args.reasons.now.items c.loop-next.reasons.items c.visit.new.reasons.items c.loop-next.invariant.1.1.on c.in_ok-visit.ensures.later

pub loop-next-preserved-in-Kept : goal.loop-next-preserved-in-Kept
loop-next-preserved-in-Kept c = (c.loop-next.invariant.0 ++ c.in-Some.watch ∷ [], (rest c.args.arena.now c.args.assignment.now c.args.reasons.now.items c.loop-next.arena c.loop-next.assignment c.loop-next.reasons.items c.args.falsified c.loop-next.before c.loop-next.next c.loop-next.invariant.0 c.loop-next.invariant.1.0 c.loop-next.invariant.1.1 c.in-Some.watch c.in-Some.is, (on_kept c.args.arena.now c.args.assignment.now c.args.reasons.now.items c.loop-next.arena c.loop-next.assignment c.loop-next.reasons.items c.args.falsified c.loop-next.before c.loop-next.next c.loop-next.invariant.0 c.loop-next.invariant.1.0 c.loop-next.invariant.1.1 c.in-Some.watch c.in-Some.is c.following-next.result c.visit.new.arena c.visit.new.assignment c.visit.new.reasons.items (c.following-next.ensures c.args.falsified c.loop-next.invariant.0 (rest c.args.arena.now c.args.assignment.now c.args.reasons.now.items c.loop-next.arena c.loop-next.assignment c.loop-next.reasons.items c.args.falsified c.loop-next.before c.loop-next.next c.loop-next.invariant.0 c.loop-next.invariant.1.0 c.loop-next.invariant.1.1 c.in-Some.watch c.in-Some.is) (after c.args.arena.now c.args.assignment.now c.args.reasons.now.items c.loop-next.arena c.loop-next.assignment c.loop-next.reasons.items c.args.falsified c.loop-next.before c.loop-next.next c.loop-next.invariant.0 c.loop-next.invariant.1.0 c.loop-next.invariant.1.1 c.in-Some.watch c.in-Some.is).between) (c.in_ok-visit.ensures.kept c.in-Kept.is).0 c.visit.ensures.whole c.in_ok-visit.ensures.later (c.in_ok-visit.ensures.kept c.in-Kept.is).1)))

pub loop-next-smaller-in-Kept : goal.loop-next-smaller-in-Kept
loop-next-smaller-in-Kept c = smaller c.args.arena.now c.args.assignment.now c.args.reasons.now.items c.loop-next.arena c.loop-next.assignment c.loop-next.reasons.items c.args.falsified c.loop-next.before c.loop-next.next c.loop-next.invariant.0 c.loop-next.invariant.1.0 c.loop-next.invariant.1.1 c.in-Some.watch c.in-Some.is c.following-next.result c.visit.new.arena c.visit.new.assignment c.visit.new.reasons.items _ _ (on_kept c.args.arena.now c.args.assignment.now c.args.reasons.now.items c.loop-next.arena c.loop-next.assignment c.loop-next.reasons.items c.args.falsified c.loop-next.before c.loop-next.next c.loop-next.invariant.0 c.loop-next.invariant.1.0 c.loop-next.invariant.1.1 c.in-Some.watch c.in-Some.is c.following-next.result c.visit.new.arena c.visit.new.assignment c.visit.new.reasons.items (c.following-next.ensures c.args.falsified c.loop-next.invariant.0 (rest c.args.arena.now c.args.assignment.now c.args.reasons.now.items c.loop-next.arena c.loop-next.assignment c.loop-next.reasons.items c.args.falsified c.loop-next.before c.loop-next.next c.loop-next.invariant.0 c.loop-next.invariant.1.0 c.loop-next.invariant.1.1 c.in-Some.watch c.in-Some.is) (after c.args.arena.now c.args.assignment.now c.args.reasons.now.items c.loop-next.arena c.loop-next.assignment c.loop-next.reasons.items c.args.falsified c.loop-next.before c.loop-next.next c.loop-next.invariant.0 c.loop-next.invariant.1.0 c.loop-next.invariant.1.1 c.in-Some.watch c.in-Some.is).between) (c.in_ok-visit.ensures.kept c.in-Kept.is).0 c.visit.ensures.whole c.in_ok-visit.ensures.later (c.in_ok-visit.ensures.kept c.in-Kept.is).1)

pub loop-next-preserved : goal.loop-next-preserved
loop-next-preserved c = (c.loop-next.invariant.0, (rest c.args.arena.now c.args.assignment.now c.args.reasons.now.items c.loop-next.arena c.loop-next.assignment c.loop-next.reasons.items c.args.falsified c.loop-next.before c.loop-next.next c.loop-next.invariant.0 c.loop-next.invariant.1.0 c.loop-next.invariant.1.1 c.in-Some.watch c.in-Some.is, (on_moved c.args.arena.now c.args.assignment.now c.args.reasons.now.items c.loop-next.arena c.loop-next.assignment c.loop-next.reasons.items c.args.falsified c.loop-next.before c.loop-next.next c.loop-next.invariant.0 c.loop-next.invariant.1.0 c.loop-next.invariant.1.1 c.in-Some.watch c.in-Some.is c.following-next.result c.visit.new.arena c.visit.new.assignment c.visit.new.reasons.items (c.following-next.ensures c.args.falsified c.loop-next.invariant.0 (rest c.args.arena.now c.args.assignment.now c.args.reasons.now.items c.loop-next.arena c.loop-next.assignment c.loop-next.reasons.items c.args.falsified c.loop-next.before c.loop-next.next c.loop-next.invariant.0 c.loop-next.invariant.1.0 c.loop-next.invariant.1.1 c.in-Some.watch c.in-Some.is) (after c.args.arena.now c.args.assignment.now c.args.reasons.now.items c.loop-next.arena c.loop-next.assignment c.loop-next.reasons.items c.args.falsified c.loop-next.before c.loop-next.next c.loop-next.invariant.0 c.loop-next.invariant.1.0 c.loop-next.invariant.1.1 c.in-Some.watch c.in-Some.is).between) c.visit.ensures.whole c.in_ok-visit.ensures.later (c.in_ok-visit.ensures.moved c.in-Moved.is).0 (c.in_ok-visit.ensures.moved c.in-Moved.is).1)))

pub loop-next-smaller : goal.loop-next-smaller
loop-next-smaller c = smaller c.args.arena.now c.args.assignment.now c.args.reasons.now.items c.loop-next.arena c.loop-next.assignment c.loop-next.reasons.items c.args.falsified c.loop-next.before c.loop-next.next c.loop-next.invariant.0 c.loop-next.invariant.1.0 c.loop-next.invariant.1.1 c.in-Some.watch c.in-Some.is c.following-next.result c.visit.new.arena c.visit.new.assignment c.visit.new.reasons.items _ _ (on_moved c.args.arena.now c.args.assignment.now c.args.reasons.now.items c.loop-next.arena c.loop-next.assignment c.loop-next.reasons.items c.args.falsified c.loop-next.before c.loop-next.next c.loop-next.invariant.0 c.loop-next.invariant.1.0 c.loop-next.invariant.1.1 c.in-Some.watch c.in-Some.is c.following-next.result c.visit.new.arena c.visit.new.assignment c.visit.new.reasons.items (c.following-next.ensures c.args.falsified c.loop-next.invariant.0 (rest c.args.arena.now c.args.assignment.now c.args.reasons.now.items c.loop-next.arena c.loop-next.assignment c.loop-next.reasons.items c.args.falsified c.loop-next.before c.loop-next.next c.loop-next.invariant.0 c.loop-next.invariant.1.0 c.loop-next.invariant.1.1 c.in-Some.watch c.in-Some.is) (after c.args.arena.now c.args.assignment.now c.args.reasons.now.items c.loop-next.arena c.loop-next.assignment c.loop-next.reasons.items c.args.falsified c.loop-next.before c.loop-next.next c.loop-next.invariant.0 c.loop-next.invariant.1.0 c.loop-next.invariant.1.1 c.in-Some.watch c.in-Some.is).between) c.visit.ensures.whole c.in_ok-visit.ensures.later (c.in_ok-visit.ensures.moved c.in-Moved.is).0 (c.in_ok-visit.ensures.moved c.in-Moved.is).1)

false_at : (content : Content) (a : List ℕ) (at r : ℕ) → Some at ≡ Some r → HasClause content at → All (IsFalse a) (literals_of content at) → HasClause content r × All (IsFalse a) (literals_of content r)
false_at content a at r e h f = let g : at ≡ r = cc in (subst (HasClause content) g h, subst (λ (k : ℕ). All (IsFalse a) (literals_of content k)) g f)

pub returns-in-Conflict-clause-conflict : goal.returns-in-Conflict-clause-conflict
returns-in-Conflict-clause-conflict c = λ at e. false_at c.visit.new.arena c.visit.new.assignment c.in-Some.watch.0 at e (c.in_ok-visit.ensures.conflict c.in-Conflict.is).1 (c.in_ok-visit.ensures.conflict c.in-Conflict.is).2

pub returns-clause-done : goal.returns-clause-done
returns-clause-done c = λ e p part rule. on_end c.args.arena.now c.args.assignment.now c.args.reasons.now.items c.loop-next.arena c.loop-next.assignment c.loop-next.reasons.items c.args.falsified c.loop-next.before c.loop-next.next c.loop-next.invariant.0 c.loop-next.invariant.1.0 c.loop-next.invariant.1.1 c.in_default.is p part rule
