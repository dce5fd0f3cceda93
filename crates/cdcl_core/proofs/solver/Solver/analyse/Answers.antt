use Rattle.std.proofs.Common.{◌≡◌, ◌≤◌, ◌<◌, ◌-◌, ℕ, List, take, drop, length, get_or, refl, sym, ◌∙◌, ap, subst, ◌+◌, Some, None, arith}
use Rattle.std.specs.Prelude.{Any, All, Contains}
use Rattle.std.proofs.lemmas.List.{get_or_default}
use Rattle.std.proofs.lemmas.List.Elements.{All-nil}
use Rattle.clause_model.specs.Clauses.{negated, AllFalse}
use Rattle.clause_model.proofs.Scans.{never}
use Rattle.clause_arena.specs.Contents.{literals_of}
use Rattle.cdcl_core.specs.Analysed.{Sees}
use Rattle.cdcl_core.specs.Implied.{clauses_of}
use Rattle.cdcl_core.proofs.Lists.{reason_of}
use Rattle.cdcl_core.proofs.Conflicts.{Resolved, Resolved-begun, Resolved-skip, Resolved-next, Resolved-learns, has_reason, none_seen, sees_clause, some_seen}
use Rattle.cdcl_core.proofs.solver.Solver.analyse.Goals as goal

read : (shown trail : List ℕ) (n l : ℕ) → shown ≡ trail → l ≡ get_or shown n l → l ≡ get_or trail n l
read shown trail n l e f = f ∙ ap (λ (xs : List ℕ). get_or xs n l) e

in_trail : (shown trail seen : List ℕ) (from count : ℕ) → shown ≡ trail → Any (Contains seen) (take count (drop from shown)) → Any (Contains seen) (take count (drop from trail))
in_trail shown trail seen from count e a = subst (λ (xs : List ℕ). Any (Contains seen) (take count (drop from xs))) e a

out_of_trail : (shown trail seen : List ℕ) (from count : ℕ) → shown ≡ trail → (Any (Contains seen) (take count (drop from shown)) → ⊥) → Any (Contains seen) (take count (drop from trail)) → ⊥
out_of_trail shown trail seen from count e f a = f (subst (λ (xs : List ℕ). Any (Contains seen) (take count (drop from xs))) (sym e) a)

pub see-requires : goal.see-requires
see-requires c = subst (All (Contains c.args.self.now.trail)) (sym c.truncate.ensures) (All-nil (Contains c.args.self.now.trail))

pub loop-at-init : goal.loop-at-init
loop-at-init c = subst (λ (n : ℕ). Resolved (clauses_of c.args.self.now.arena) c.args.self.now.trail c.args.start n c.see.new.seen) (sym c.len-at.ensures.value)
    (Resolved-begun c.args.self.now.arena c.args.self.now.reasons.items c.args.self.now.trail c.args.low c.args.start c.args.conflict c.requires c.literals-literals.ensures.consistent c.see.new.seen (sees_clause c.args.self.now.trail (literals_of c.args.self.now.arena c.args.conflict) c.lits.result.now c.truncate.new.self c.see.new.seen c.truncate.ensures c.lits.ensures c.in_ok-see.ensures))

pub loop-at-preserved : goal.loop-at-preserved
loop-at-preserved c =
    let n : ℕ = c.loop-at.at - 1 in
    let e : n + 1 ≡ c.loop-at.at = omega arith in
    let b : n < length c.args.self.now.trail = omega (arith, c.loop-at.invariant.within) in
    let m : n ≤ length c.args.self.now.trail = omega arith in
    let d : n < length c.args.self.now.reasons.items = omega (arith, c.requires.aligned) in
    let t : c.index-literals-at.result ≡ get_or c.args.self.now.trail n c.index-literals-at.result = read c.literals-literals.result.now c.args.self.now.trail n c.index-literals-at.result c.literals-literals.ensures.value c.index-literals-at.is in
    let u : c.index-literals-at.result ≡ get_or c.args.self.now.trail n 0 = t ∙ get_or_default c.args.self.now.trail n c.index-literals-at.result 0 b in
    Resolved-skip c.args.self.now.arena c.args.self.now.reasons.items c.args.self.now.trail c.args.low c.args.start c.args.conflict c.requires c.literals-literals.ensures.consistent c.loop-at.at n c.loop-at.seen e c.loop-at.invariant
    (λ p. never c.if-is_true.ensures.1 (subst (Contains c.loop-at.seen) (sym u) p))

pub lits-requires-in-Some : goal.lits-requires-in-Some
lits-requires-in-Some c =
    let n : ℕ = c.loop-at.at - 1 in
    let e : n + 1 ≡ c.loop-at.at = omega arith in
    let b : n < length c.args.self.now.trail = omega (arith, c.loop-at.invariant.within) in
    let m : n ≤ length c.args.self.now.trail = omega arith in
    let d : n < length c.args.self.now.reasons.items = omega (arith, c.requires.aligned) in
    (c.requires.because n c.in-Some.number (reason_of c.args.self.now.reasons.items n c.index-reason.result.now (Some c.in-Some.number) d c.index-reason.ensures c.in-Some.is)).clause

pub see-requires-in-Some : goal.see-requires-in-Some
see-requires-in-Some c = c.loop-at.invariant.part

pub unreachable-requires : goal.unreachable-requires
unreachable-requires c =
    let n : ℕ = c.loop-at.at - 1 in
    let e : n + 1 ≡ c.loop-at.at = omega arith in
    let b : n < length c.args.self.now.trail = omega (arith, c.loop-at.invariant.within) in
    let m : n ≤ length c.args.self.now.trail = omega arith in
    let d : n < length c.args.self.now.reasons.items = omega (arith, c.requires.aligned) in
    let s = some_seen c.args.self.now.trail c.loop-at.seen c.args.start n m (in_trail c.literals-literals.result.now c.args.self.now.trail c.loop-at.seen c.args.start (n - c.args.start) c.literals-literals.ensures.value (c.if-not-sees_some.ensures.0 refl)) in
    has_reason c.args.self.now.arena c.args.self.now.reasons.items c.args.self.now.trail c.args.low c.args.start c.args.conflict c.requires c.literals-literals.ensures.consistent c.loop-at.at n c.loop-at.seen e c.loop-at.invariant s.0 s.1 s.2 (reason_of c.args.self.now.reasons.items n c.index-reason.result.now None d c.index-reason.ensures c.in-None.is)

pub loop-at-preserved-in-Continue-branch-3 : goal.loop-at-preserved-in-Continue-branch-3
loop-at-preserved-in-Continue-branch-3 c =
    let n : ℕ = c.loop-at.at - 1 in
    let e : n + 1 ≡ c.loop-at.at = omega arith in
    let b : n < length c.args.self.now.trail = omega (arith, c.loop-at.invariant.within) in
    let m : n ≤ length c.args.self.now.trail = omega arith in
    let d : n < length c.args.self.now.reasons.items = omega (arith, c.requires.aligned) in
    let w = c.requires.because n c.in-Some.number (reason_of c.args.self.now.reasons.items n c.index-reason.result.now (Some c.in-Some.number) d c.index-reason.ensures c.in-Some.is) in
    let s = some_seen c.args.self.now.trail c.loop-at.seen c.args.start n m (in_trail c.literals-literals.result.now c.args.self.now.trail c.loop-at.seen c.args.start (n - c.args.start) c.literals-literals.ensures.value (c.if-not-sees_some.ensures.0 refl)) in
    Resolved-next c.args.self.now.arena c.args.self.now.reasons.items c.args.self.now.trail c.args.low c.args.start c.args.conflict c.requires c.literals-literals.ensures.consistent c.loop-at.at n c.loop-at.seen e c.loop-at.invariant c.in-Some.number c.see-in-Some.new.seen w
    (subst (λ (xs : List ℕ). Sees c.args.self.now.trail xs c.loop-at.seen c.see-in-Some.new.seen) c.lits-in-Some.ensures c.in_ok-see-in-Some.ensures) s

pub returns-then-not-sees_some : goal.returns-then-not-sees_some
returns-then-not-sees_some c =
    let n : ℕ = c.loop-at.at - 1 in
    let e : n + 1 ≡ c.loop-at.at = omega arith in
    let b : n < length c.args.self.now.trail = omega (arith, c.loop-at.invariant.within) in
    let m : n ≤ length c.args.self.now.trail = omega arith in
    let d : n < length c.args.self.now.reasons.items = omega (arith, c.requires.aligned) in
    let t : c.index-literals-at.result ≡ get_or c.args.self.now.trail n c.index-literals-at.result = read c.literals-literals.result.now c.args.self.now.trail n c.index-literals-at.result c.literals-literals.ensures.value c.index-literals-at.is in
    let u : c.index-literals-at.result ≡ get_or c.args.self.now.trail n 0 = t ∙ get_or_default c.args.self.now.trail n c.index-literals-at.result 0 b in
    let alone = none_seen c.args.self.now.trail c.loop-at.seen c.args.start n m (out_of_trail c.literals-literals.result.now c.args.self.now.trail c.loop-at.seen c.args.start (n - c.args.start) c.literals-literals.ensures.value (λ a. never c.if-not-sees_some.ensures.1 a)) in
    Resolved-learns c.args.self.now.arena c.args.self.now.reasons.items c.args.self.now.trail c.args.low c.args.start c.args.conflict c.requires c.literals-literals.ensures.consistent c.loop-at.at n c.loop-at.seen e c.loop-at.invariant c.negated.result c.in_ok-others.others.items (c.negated.ensures ∙ ap negated u) (omega arith) c.literals-literals.ensures.distinct alone
    (subst (λ (xs : List ℕ). All (λ t. Contains c.loop-at.seen t → Contains c.in_ok-others.others.items (negated t)) (take (c.args.start - c.args.low) (drop c.args.low xs))) c.literals-literals.ensures.value c.in_ok-others.ensures.all)
    (subst (λ (xs : List ℕ). AllFalse (take (c.args.start - c.args.low) (drop c.args.low xs)) c.in_ok-others.others.items) c.literals-literals.ensures.value c.in_ok-others.ensures.only)
