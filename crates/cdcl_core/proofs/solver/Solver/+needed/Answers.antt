use Rattle.std.proofs.Common.{ℕ, ◌++◌, ◌≤◌, ◌-◌, ◌/◌, List, length, take, drop, arith, refl, subst, sym, ap, ◌∙◌}
use Rattle.std.specs.Prelude.{All}
use Rattle.std.proofs.lemmas.List.{length-take, length-drop}
use Rattle.clause_arena.specs.Contents.{HasLiteral}
use Rattle.cdcl_core.specs.Implied.{clauses_of}
use Rattle.cdcl_core.proofs.Minimised.{none_needed}
use Rattle.cdcl_core.proofs.Halved.{halves, All-within, within_halves, first_half, second_half, root_there, rule_there, known_there, one_needed, watches_both, both_needed}
use Rattle.cdcl_core.proofs.solver.Solver.+needed.Goals as goal

pub returns-then-is_refuted-clause-needed : goal.returns-then-is_refuted-clause-needed
returns-then-is_refuted-clause-needed t c others j f r = none_needed (clauses_of c.args.self.now.arena) (others ++ c.args.denied.now) c.new.result.items c.new.ensures.items (c.in_ok-is_refuted.ensures.refuted c.if-is_refuted.true others j)

pub returns-then-literals-le1-clause-needed : goal.returns-then-literals-le1-clause-needed
returns-then-literals-le1-clause-needed t c others j f r = one_needed c.args.self.now.arena c.args.self.now.reasons.items c.args.self.now.trail c.args.denied.now c.deny.new.arena c.deny.new.reasons.items c.deny.new.trail c.in_ok-is_refuted.is_refuted c.if-is_refuted.false c.in_ok-is_refuted.ensures c.requires.root.0 c.requires.root.1 c.len-trues.ensures.consistent c.literals-whole.ensures.whole c.args.literals.now c.in_ok-part.part.items (omega (arith, c.if-literals-le1.true)) c.in_ok-part.ensures.items others f r

pub needed-requires : goal.needed-requires
needed-requires t c =
    let d = c.in_ok-is_refuted.ensures in
    let k : All (HasLiteral c.deny.new.arena) c.args.literals.now = known_there c.args.self.now.arena c.deny.new.arena c.args.self.now.reasons.items c.args.self.now.reasons.items c.args.self.now.trail c.args.self.now.trail d.watches refl refl c.args.literals.now c.requires.known in (
      omega (arith, length-take {A = ℕ}),
      (
        (c.requires.root.0, d.root c.requires.root.0 c.requires.root.1),
        (
          (d.settled c.if-is_refuted.false).0,
          (second_half (HasLiteral c.deny.new.arena) c.args.literals.now (length c.args.literals.now / 2) k, first_half (HasLiteral c.deny.new.arena) c.args.literals.now (length c.args.literals.now / 2) k),
        ),
      ),
    )

pub needed-requires-2 : goal.needed-requires-2
needed-requires-2 t c =
    let d = c.in_ok-is_refuted.ensures in
    let l = c.in_ok-part-2.ensures in
    let m : ℕ = length c.args.literals.now / 2 in
    let k : All (HasLiteral c.needed.new.self.arena) c.args.literals.now =
    known_there c.deny.new.arena c.needed.new.self.arena c.deny.new.reasons.items c.deny.new.reasons.items c.deny.new.trail c.deny.new.trail l.watches refl refl c.args.literals.now
    (known_there c.args.self.now.arena c.deny.new.arena c.args.self.now.reasons.items c.args.self.now.reasons.items c.args.self.now.trail c.args.self.now.trail d.watches refl refl c.args.literals.now c.requires.known) in (
      omega (arith, length-take {A = ℕ}, length-drop {A = ℕ}, c.if-literals-le1.false),
      (
        (c.requires.root.0, root_there c.deny.new.arena c.needed.new.self.arena c.deny.new.reasons.items c.needed.new.self.reasons.items c.deny.new.trail c.needed.new.self.trail l.watches l.trail l.reasons c.requires.root.0 (d.root c.requires.root.0 c.requires.root.1)),
        (
          rule_there c.deny.new.arena c.needed.new.self.arena c.deny.new.reasons.items c.needed.new.self.reasons.items c.deny.new.trail c.needed.new.self.trail l.watches l.trail l.reasons (d.settled c.if-is_refuted.false).0,
          (
            subst (All (HasLiteral c.needed.new.self.arena)) (sym c.deref.ensures.value) (All-within (HasLiteral c.needed.new.self.arena) c.in_ok-part-2.part.items (take m c.args.literals.now) l.part (first_half (HasLiteral c.needed.new.self.arena) c.args.literals.now m k)),
            second_half (HasLiteral c.needed.new.self.arena) c.args.literals.now m k,
          ),
        ),
      ),
    )

pub returns-clause-watches : goal.returns-clause-watches
returns-clause-watches t c =
    let d = c.in_ok-is_refuted.ensures in
    let l = c.in_ok-part-2.ensures in
    let n : length c.args.self.now.trail ≤ length c.deny.new.trail = omega (arith, ap length d.prefix, length-take {A = ℕ}) in
    watches_both c.args.self.now.arena c.args.self.now.reasons.items c.args.self.now.trail c.args.denied.now c.deny.new.arena c.deny.new.reasons.items c.deny.new.trail c.in_ok-is_refuted.is_refuted c.if-is_refuted.false d
    c.needed.new.self.arena c.needed.new.self.reasons.items c.needed.new.self.trail l.watches l.trail l.reasons c.needed-2.new.self.arena n c.requires.root.1.aligned c.in_ok-rest.ensures.watches

pub returns-clause-part : goal.returns-clause-part
returns-clause-part t c = within_halves c.args.literals.now (length c.args.literals.now / 2) c.in_ok-part-2.part.items c.in_ok-rest.rest.items c.extend_from_slice.new.self.items c.in_ok-part-2.ensures.part c.in_ok-rest.ensures.part
    (c.in_ok-extend_from_slice.ensures.items ∙ ap (λ (xs : List ℕ). c.in_ok-part-2.part.items ++ xs) c.deref-2.ensures.value)

pub returns-clause-needed : goal.returns-clause-needed
returns-clause-needed t c =
    let d = c.in_ok-is_refuted.ensures in
    let l = c.in_ok-part-2.ensures in
    let m : ℕ = length c.args.literals.now / 2 in
    both_needed c.args.self.now.arena c.args.self.now.reasons.items c.args.self.now.trail c.args.denied.now c.deny.new.arena c.deny.new.reasons.items c.deny.new.trail c.in_ok-is_refuted.is_refuted c.if-is_refuted.false d
    c.needed.new.self.arena c.needed.new.self.reasons.items c.needed.new.self.trail l.watches l.trail l.reasons c.args.literals.now (take m c.args.literals.now) (take (length c.args.literals.now - m) (drop m c.args.literals.now)) (halves c.args.literals.now m)
    c.in_ok-part-2.part.items c.deref.result.now c.in_ok-rest.rest.items c.extend_from_slice.new.self.items c.deref.ensures.value (c.in_ok-extend_from_slice.ensures.items ∙ ap (λ (xs : List ℕ). c.in_ok-part-2.part.items ++ xs) c.deref-2.ensures.value)
    c.in_ok-rest.ensures.part l.needed c.in_ok-rest.ensures.needed
