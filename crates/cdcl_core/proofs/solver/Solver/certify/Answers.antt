use Rattle.std.proofs.Common.{◌≢◌, ◌<◌, ℕ, List, length, sym, subst, ◌∙◌, ap}
use Rattle.std.specs.Prelude.{All, AllPairs}
use Rattle.clause_arena.specs.Contents.{references_of, Clause}
use Rattle.cdcl_core.specs.Implied.{level_of}
use Rattle.cdcl_core.specs.Hinted.{HasReasons}
use Rattle.cdcl_core.proofs.Assumptions.{never_true}
use Rattle.cdcl_core.proofs.Falsified.{rule_from, back_falsifiable}
use Rattle.cdcl_core.proofs.Derived.{denied_root, derived_root, givens_are, givens_distinct, givens_bounded, givens_reasons, never_settled, part_of_clause, whole_clause, givens_known, tidy_here, numbered_there}
use Rattle.cdcl_core.proofs.solver.Solver.certify.Goals as goal

pub propagate-requires : goal.propagate-requires
propagate-requires c =
    let d = denied_root c.args.self.now.arena c.args.low c.args.self.now.reasons.items c.args.self.now.trail c.requires.root c.args.clause.now c.requires.falsifiable c.back.new.reasons.items c.back.new.trail c.back.ensures.trail c.back.ensures.reasons c.assume.new.reasons.items c.assume.new.trail (c.in_ok-is_true.ensures.each c.if-is_true.false) in
    record { aligned = d.aligned; attached = d.attached; known = d.known; literals = d.literals; from = d.within; rule = rule_from (level_of c.args.self.now.arena c.args.self.now.trail c.args.low) c.args.self.now.arena c.assume.new.reasons.items c.assume.new.trail d }

pub derive-requires : goal.derive-requires
derive-requires c =
    let e = givens_are c.args.self.now.arena c.args.low c.args.self.now.reasons.items c.args.self.now.trail c.requires.root c.args.clause.now c.requires.falsifiable c.back.new.reasons.items c.back.new.trail c.back.ensures.trail c.back.ensures.reasons c.assume.new.reasons.items c.assume.new.trail (c.in_ok-is_true.ensures.each c.if-is_true.false) c.propagate.new.arena c.propagate.new.reasons.items c.propagate.new.assignment c.in_ok-conflict.ensures.later c.literals.result.now c.len-high.result c.literals.ensures.value c.len-high.ensures.value in
    record {
      refs = c.requires.refs ∙ ap (λ (cs : List Clause). references_of record { clauses = cs; chains = c.propagate.new.arena.chains }) (sym c.in_ok-conflict.ensures.later.clauses);
      ids = c.requires.ids;
      reasons = subst (λ (xs : List ℕ). HasReasons c.propagate.new.arena c.propagate.new.reasons.items c.propagate.new.assignment xs c.in-Some.conflict) (sym e)
          (givens_reasons c.args.self.now.arena c.args.low c.args.self.now.reasons.items c.args.self.now.trail c.requires.root c.args.clause.now c.requires.falsifiable c.back.new.reasons.items c.back.new.trail c.back.ensures.trail c.back.ensures.reasons c.assume.new.reasons.items c.assume.new.trail (c.in_ok-is_true.ensures.each c.if-is_true.false) c.propagate.new.arena c.propagate.new.reasons.items c.propagate.new.assignment c.in_ok-conflict.ensures.later c.in-Some.conflict (c.in_ok-conflict.ensures.conflict c.in-Some.conflict c.in-Some.is) c.literals.ensures.distinct);
      distinct = subst (AllPairs (λ x y. x ≢ y)) (sym e) (givens_distinct c.args.self.now.arena c.args.low c.args.self.now.reasons.items c.args.self.now.trail c.requires.root c.args.clause.now c.requires.falsifiable c.back.new.reasons.items c.back.new.trail c.back.ensures.trail c.back.ensures.reasons c.assume.new.reasons.items c.assume.new.trail (c.in_ok-is_true.ensures.each c.if-is_true.false) c.propagate.new.arena c.propagate.new.reasons.items c.propagate.new.assignment c.in_ok-conflict.ensures.later c.literals.ensures.distinct);
      bounded = subst (All (λ x. x < 400000)) (sym e) (givens_bounded c.args.self.now.arena c.args.low c.args.self.now.reasons.items c.args.self.now.trail c.requires.root c.args.clause.now c.requires.falsifiable c.back.new.reasons.items c.back.new.trail c.back.ensures.trail c.back.ensures.reasons c.assume.new.reasons.items c.assume.new.trail (c.in_ok-is_true.ensures.each c.if-is_true.false) c.propagate.new.arena c.propagate.new.reasons.items c.propagate.new.assignment c.in_ok-conflict.ensures.later 400000 c.requires.size);
    }

pub unreachable-requires : goal.unreachable-requires
unreachable-requires c =
    let w = c.in_ok-is_true.ensures.tried in
    never_true (length c.args.self.now.arena.chains) c.back.new.trail c.args.clause.now w.0 c.back.new.reasons.items c.assume.new.reasons.items c.assume.new.trail (back_falsifiable (length c.args.self.now.arena.chains) c.args.low c.args.self.now.trail c.back.new.trail c.args.clause.now c.back.ensures.trail c.requires.falsifiable) w.1 w.2 (c.in_ok-is_true.ensures.one c.if-is_true.true)

pub unreachable-requires-in_default : goal.unreachable-requires-in_default
unreachable-requires-in_default c = never_settled c.args.self.now.arena c.args.low c.args.self.now.reasons.items c.args.self.now.trail c.requires.root c.args.clause.now c.requires.falsifiable c.back.new.reasons.items c.back.new.trail c.back.ensures.trail c.back.ensures.reasons c.assume.new.reasons.items c.assume.new.trail (c.in_ok-is_true.ensures.each c.if-is_true.false) c.propagate.new.arena c.propagate.new.reasons.items c.propagate.new.assignment c.in_ok-conflict.ensures.later c.requires.refutable c.len-trues.ensures.consistent c.literals-literals.ensures.whole (c.in_ok-conflict.ensures.done c.in_default.is)

pub returns-clause-root : goal.returns-clause-root
returns-clause-root c = derived_root c.args.self.now.arena c.args.low c.args.self.now.reasons.items c.args.self.now.trail c.requires.root c.args.clause.now c.requires.falsifiable c.back.new.reasons.items c.back.new.trail c.back.ensures.trail c.back.ensures.reasons c.assume.new.reasons.items c.assume.new.trail (c.in_ok-is_true.ensures.each c.if-is_true.false) c.propagate.new.arena c.propagate.new.reasons.items c.propagate.new.assignment c.in_ok-conflict.ensures.later

pub returns-clause-clauses : goal.returns-clause-clauses
returns-clause-clauses c = c.in_ok-conflict.ensures.later.clauses

pub returns-clause-part : goal.returns-clause-part
returns-clause-part c = part_of_clause c.args.self.now.arena c.args.low c.args.self.now.reasons.items c.args.self.now.trail c.requires.root c.args.clause.now c.requires.falsifiable c.back.new.reasons.items c.back.new.trail c.back.ensures.trail c.back.ensures.reasons c.assume.new.reasons.items c.assume.new.trail (c.in_ok-is_true.ensures.each c.if-is_true.false) _ c.in_ok-line.line.literals.items (givens_are c.args.self.now.arena c.args.low c.args.self.now.reasons.items c.args.self.now.trail c.requires.root c.args.clause.now c.requires.falsifiable c.back.new.reasons.items c.back.new.trail c.back.ensures.trail c.back.ensures.reasons c.assume.new.reasons.items c.assume.new.trail (c.in_ok-is_true.ensures.each c.if-is_true.false) c.propagate.new.arena c.propagate.new.reasons.items c.propagate.new.assignment c.in_ok-conflict.ensures.later c.literals.result.now c.len-high.result c.literals.ensures.value c.len-high.ensures.value) c.in_ok-line.ensures.literals

pub returns-clause-whole : goal.returns-clause-whole
returns-clause-whole c = whole_clause c.args.self.now.arena c.args.low c.args.self.now.reasons.items c.args.self.now.trail c.requires.root c.args.clause.now c.requires.falsifiable c.back.new.reasons.items c.back.new.trail c.back.ensures.trail c.back.ensures.reasons c.assume.new.reasons.items c.assume.new.trail (c.in_ok-is_true.ensures.each c.if-is_true.false) _ c.in_ok-line.line.literals.items (givens_are c.args.self.now.arena c.args.low c.args.self.now.reasons.items c.args.self.now.trail c.requires.root c.args.clause.now c.requires.falsifiable c.back.new.reasons.items c.back.new.trail c.back.ensures.trail c.back.ensures.reasons c.assume.new.reasons.items c.assume.new.trail (c.in_ok-is_true.ensures.each c.if-is_true.false) c.propagate.new.arena c.propagate.new.reasons.items c.propagate.new.assignment c.in_ok-conflict.ensures.later c.literals.result.now c.len-high.result c.literals.ensures.value c.len-high.ensures.value) c.in_ok-line.ensures.literals c.requires.fresh

pub returns-clause-tidy : goal.returns-clause-tidy
returns-clause-tidy c = λ live a.
    let w = c.in_ok-line.ensures.hints live (numbered_there live c.args.self.now.arena c.propagate.new.arena c.args.self.now.ids.items c.in_ok-conflict.ensures.later.clauses a) in
    (w.0, w.1, tidy_here live _ c.in_ok-line.line.literals.items w.0 c.in_ok-line.ensures.literals w.2)

pub returns-clause-known : goal.returns-clause-known
returns-clause-known c = givens_known c.args.self.now.arena c.args.low c.args.self.now.reasons.items c.args.self.now.trail c.requires.root c.args.clause.now c.requires.falsifiable c.back.new.reasons.items c.back.new.trail c.back.ensures.trail c.back.ensures.reasons c.assume.new.reasons.items c.assume.new.trail (c.in_ok-is_true.ensures.each c.if-is_true.false) c.propagate.new.arena c.propagate.new.reasons.items c.propagate.new.assignment c.in_ok-conflict.ensures.later _ c.in_ok-line.line.literals.items (givens_are c.args.self.now.arena c.args.low c.args.self.now.reasons.items c.args.self.now.trail c.requires.root c.args.clause.now c.requires.falsifiable c.back.new.reasons.items c.back.new.trail c.back.ensures.trail c.back.ensures.reasons c.assume.new.reasons.items c.assume.new.trail (c.in_ok-is_true.ensures.each c.if-is_true.false) c.propagate.new.arena c.propagate.new.reasons.items c.propagate.new.assignment c.in_ok-conflict.ensures.later c.literals.result.now c.len-high.result c.literals.ensures.value c.len-high.ensures.value) c.in_ok-line.ensures.literals
