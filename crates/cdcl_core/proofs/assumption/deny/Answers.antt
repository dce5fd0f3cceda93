use Rattle.cdcl_core.proofs.Falsified.{tried_rule, tried_root, denied_true, denied_false, denied_settled}
use Rattle.cdcl_core.proofs.assumption.deny.Goals as goal

pub returns-then-is_true : goal.returns-then-is_true
returns-then-is_true c =
    let w = c.in_ok-is_true.ensures.tried in
    denied_true c.args.arena.now c.args.reasons.now.items c.args.trail.now c.args.literals.now w.0 c.requires.root.1.aligned w.1 c.assume.new.reasons.items c.assume.new.trail w.2 c.requires.known (c.in_ok-is_true.ensures.one c.if-is_true.true)

pub propagate-requires-clause-literals : goal.propagate-requires-clause-literals
propagate-requires-clause-literals c =
    let w = c.in_ok-is_true.ensures.tried in
    (tried_root c.args.arena.now c.args.reasons.now.items c.args.trail.now c.args.literals.now w.0 c.requires.root.1.aligned w.1 c.assume.new.reasons.items c.assume.new.trail w.2 c.requires.root.0 c.requires.root.1 c.requires.known).literals

pub propagate-requires-clause-rule : goal.propagate-requires-clause-rule
propagate-requires-clause-rule c =
    let w = c.in_ok-is_true.ensures.tried in
    tried_rule c.args.arena.now c.args.reasons.now.items c.args.trail.now c.args.literals.now w.0 c.requires.root.1.aligned w.1 c.assume.new.reasons.items c.assume.new.trail w.2 c.len-mark.result c.len-mark.ensures.value c.requires.rule

pub returns-in-Some : goal.returns-in-Some
returns-in-Some c =
    let w = c.in_ok-is_true.ensures.tried in
    denied_false c.args.arena.now c.args.reasons.now.items c.args.trail.now c.args.literals.now w.0 c.requires.root.1.aligned w.1 c.assume.new.reasons.items c.assume.new.trail w.2 c.requires.known c.propagate.new.arena c.propagate.new.reasons.items c.propagate.new.assignment c.in_ok-propagate.ensures.later c.in-Some.field-0 (c.in_ok-propagate.ensures.conflict c.in-Some.field-0 c.in-Some.is)

pub returns-in-None : goal.returns-in-None
returns-in-None c =
    let w = c.in_ok-is_true.ensures.tried in
    denied_settled c.args.arena.now c.args.reasons.now.items c.args.trail.now c.args.literals.now w.0 c.requires.root.1.aligned w.1 c.assume.new.reasons.items c.assume.new.trail w.2 c.requires.known c.propagate.new.arena c.propagate.new.reasons.items c.propagate.new.assignment c.in_ok-propagate.ensures.later (c.in_ok-is_true.ensures.each c.if-is_true.false).falsified (c.in_ok-propagate.ensures.done c.in-None.is)
