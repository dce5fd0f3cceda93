use Rattle.std.proofs.Common.{◌≡◌, ℕ, ◌+◌, ◌<◌, ◌≤◌, ◌⊎◌, List, length, take, get_or, ◌∙◌, arith, subst}
use Rattle.std.specs.Prelude.{Contains}
use Rattle.clause_model.specs.Clauses.{negated}
use Rattle.clause_arena.specs.Contents.{Content, Watches}
use Rattle.unit_propagation.specs.Watching.{IsOtherTrue, RuleUpTo}
use Rattle.unit_propagation.proofs.Steps.{later_after, Contains-part}
use Rattle.unit_propagation.proofs.Walks.{known_later}
use Rattle.unit_propagation.proofs.Heads.{length_below, next_rule, next_at, rule_at_end}
use Rattle.unit_propagation.proofs.watching.propagate.Goals as goal

pub walk-requires-clause-aligned : goal.walk-requires-clause-aligned
walk-requires-clause-aligned c = c.loop-head.invariant.later.aligned

pub walk-requires-clause-attached : goal.walk-requires-clause-attached
walk-requires-clause-attached c = c.loop-head.invariant.later.attached c.requires.attached

pub walk-requires-clause-known : goal.walk-requires-clause-known
walk-requires-clause-known c = known_later c.args.arena.now c.loop-head.arena c.loop-head.invariant.later.clauses c.loop-head.invariant.later.size c.requires.known

pub returns-in-Some-clause-later : goal.returns-in-Some-clause-later
returns-in-Some-clause-later c = later_after c.args.arena.now c.loop-head.arena c.walk.new.arena c.args.assignment.now c.loop-head.assignment c.walk.new.assignment c.args.reasons.now.items c.loop-head.reasons.items c.walk.new.reasons.items c.loop-head.invariant.later c.in_ok-at.ensures.later

pub returns-in-Some-clause-conflict : goal.returns-in-Some-clause-conflict
returns-in-Some-clause-conflict c = λ at e. c.in_ok-at.ensures.conflict at (c.in-Some.is ∙ e)

pub loop-head-smaller : goal.loop-head-smaller
loop-head-smaller c =
    let b : length c.loop-head.assignment ≤ length c.loop-head.arena.chains = length_below (length c.loop-head.arena.chains) c.loop-head.assignment c.len.ensures.distinct (c.loop-head.invariant.later.literals c.requires.literals) in
    omega (arith, c.in_ok-at.ensures.later.size, c.len.ensures.value)

-- the rule for one more literal, from what the walk along the chain of its contrary guarantees
rule : (content later : Content) (a b literals : List ℕ) (head literal f code count : ℕ) → head < count → count ≡ length a → literals ≡ a → literal ≡ get_or literals head literal → f ≡ negated literal → code ≡ f → RuleUpTo content (take head a) a
    → ((p : List ℕ) → ((k : ℕ) → Contains p k → Contains a k) → ((at slot l : ℕ) → Watches content at slot l → Contains p (negated l) → (l ≡ code) ⊎ IsOtherTrue content a at slot) → RuleUpTo later p b) → RuleUpTo later (take (head + 1) a) b
rule content later a b literals head literal f code count h n e r g d old done =
    let read : literal ≡ get_or a head literal = subst (λ (xs : List ℕ). literal ≡ get_or xs head literal) e r in
    done (take (head + 1) a) (λ k. Contains-part (head + 1) a k) (next_rule content a head literal code (omega arith) read (d ∙ g) old)

pub loop-head-preserved : goal.loop-head-preserved
loop-head-preserved c = next_at c.args.arena.now c.loop-head.arena c.walk.new.arena c.args.assignment.now c.loop-head.assignment c.walk.new.assignment c.args.reasons.now.items c.loop-head.reasons.items c.walk.new.reasons.items c.loop-head.head c.loop-head.invariant (omega (arith, c.len.ensures.value)) c.in_ok-at.ensures.later
    (rule c.loop-head.arena c.walk.new.arena c.loop-head.assignment c.walk.new.assignment c.literals.result.now c.loop-head.head c.index-literals-head.result c.negated-falsified.result c.code.result c.len.result c.loop-head-test.true c.len.ensures.value c.literals.ensures.value c.index-literals-head.is c.negated-falsified.ensures c.code.ensures c.loop-head.invariant.rule
    (c.in_ok-at.ensures.done c.in-None.is))

pub returns-clause-done : goal.returns-clause-done
returns-clause-done c = λ e. rule_at_end c.args.arena.now c.loop-head.arena c.args.assignment.now c.loop-head.assignment c.args.reasons.now.items c.loop-head.reasons.items c.loop-head.head c.loop-head.invariant (omega (arith, c.len.ensures.value))
