use Rattle.std.proofs.Common.{◌≡◌, ℕ, ◌⊎◌, List, [], ◌∷◌, ◌++◌, refl, sym, ◌∙◌, inl, inr, subst, Bool, true, false, length, Option, Some}
use Rattle.std.specs.Prelude.{Contains, All, IsTrue, ◌↔◌}
use Rattle.std.proofs.lemmas.List.Elements.{All-weaker, Contains-push}
use Rattle.clause_model.specs.Clauses.{negated, IsFalse, IsUnit}
use Rattle.clause_arena.specs.Contents.{Content, HasClause, HasLiteral, literals_of}
use Rattle.unit_propagation.specs.Watching.{IsLater}
use Rattle.unit_propagation.proofs.Steps.{stands, stands_in, later_set, moved_later, moved, other_in, unit_of}
use Rattle.unit_propagation.proofs.watching.visit.Goals as goal

pub other_of-other-requires-clause-clause : goal.other_of-other-requires-clause-clause
other_of-other-requires-clause-clause c = (stands_in c.args.arena.now c.args.before c.args.watch c.args.falsified c.requires.after.0 c.requires.after.1.0 c.requires.whole c.requires.after.1.1).0

pub other_of-other-requires-clause-slot : goal.other_of-other-requires-clause-slot
other_of-other-requires-clause-slot c = (stands_in c.args.arena.now c.args.before c.args.watch c.args.falsified c.requires.after.0 c.requires.after.1.0 c.requires.whole c.requires.after.1.1).1

pub other_of-other-requires-clause-watches : goal.other_of-other-requires-clause-watches
other_of-other-requires-clause-watches c = (c.args.falsified, stands c.args.arena.now c.args.before c.args.watch c.args.falsified c.requires.after.0 c.requires.after.1.0 c.requires.whole c.requires.after.1.1)

pub lits-requires : goal.lits-requires
lits-requires c = (stands_in c.args.arena.now c.args.before c.args.watch c.args.falsified c.requires.after.0 c.requires.after.1.0 c.requires.whole c.requires.after.1.1).0

pub move_watch-requires-clause-literal : goal.move_watch-requires-clause-literal
move_watch-requires-clause-literal c =
    c.requires.known.literals c.args.watch.0 c.in-Some.free (stands_in c.args.arena.now c.args.before c.args.watch c.args.falsified c.requires.after.0 c.requires.after.1.0 c.requires.whole c.requires.after.1.1).0
    (subst (λ (xs : List ℕ). Contains xs c.in-Some.free) c.lits.ensures c.in-Some.ensures.some.0)

all_false : (a literals : List ℕ) (other : ℕ) → All (λ l. (l ≡ other) ⊎ IsFalse a l) literals → Contains a (negated other) → All (IsFalse a) literals
all_false a literals other h f = All-weaker (λ l. (l ≡ other) ⊎ IsFalse a l) (IsFalse a) (λ l e. elim e [ inl g ↦ subst (λ (k : ℕ). Contains a (negated k)) (sym g) f | inr g ↦ g ]) literals h

true_of : (b : Bool) (a : List ℕ) (l m n : ℕ) → (IsTrue b ↔ Contains a n) → b ≡ true → n ≡ negated m → m ≡ l → Contains a (negated l)
true_of b a l m n h e f g = subst (λ (k : ℕ). Contains a (negated k)) g (subst (Contains a) f (h.0 e))

not_of : (b : Bool) (a : List ℕ) (l : ℕ) → (IsTrue b ↔ Contains a l) → b ≡ false → Contains a l → ⊥
not_of b a l h e q = let f : b ≡ true = h.1 q in let g : true ≡ false = sym f ∙ e in cc

set_of : (a b : List ℕ) (l m : ℕ) → b ≡ a ++ m ∷ [] → m ≡ l → Contains b l
set_of a b l m e f = subst (Contains b) f (subst (λ (xs : List ℕ). Contains xs m) (sym e) (Contains-push a m))

pub returns-then-is_true-2-clause-conflict : goal.returns-then-is_true-2-clause-conflict
returns-then-is_true-2-clause-conflict c = λ e. (
  refl,
  (stands_in c.args.arena.now c.args.before c.args.watch c.args.falsified c.requires.after.0 c.requires.after.1.0 c.requires.whole c.requires.after.1.1).0,
  all_false c.args.assignment.now (literals_of c.args.arena.now c.args.watch.0) c.other_of-other.result (subst (All (λ l. (l ≡ c.other_of-other.result) ⊎ IsFalse c.args.assignment.now l)) c.lits.ensures (c.find_free.ensures.none c.in-None.is)) (true_of c.is_true-in-None.result c.args.assignment.now c.other_of-other.result c.from_code-literal.result c.negated.result c.is_true-in-None.ensures c.if-is_true-2.true c.negated.ensures c.from_code-literal.ensures),
)

set_later : (content : Content) (a b : List ℕ) (r s : List (Option ℕ)) (l reason : ℕ) → length r ≡ length a → HasLiteral content l → HasClause content reason → IsUnit a (literals_of content reason) l → b ≡ a ++ l ∷ [] → s ≡ r ++ Some reason ∷ [] → IsLater content a r content b s
set_later content a b r s l reason al known clause unit e f = rw (e, f) (later_set content a r l reason al known clause unit)

pub returns-in_ok-push-in-None-clause-later : goal.returns-in_ok-push-in-None-clause-later
returns-in_ok-push-in-None-clause-later c = set_later c.args.arena.now c.args.assignment.now _ c.args.reasons.now.items _ c.from_code-literal.result c.args.watch.0 c.requires.aligned (subst (HasLiteral c.args.arena.now) (sym c.from_code-literal.ensures) c.other_of-other.ensures.0) (stands_in c.args.arena.now c.args.before c.args.watch c.args.falsified c.requires.after.0 c.requires.after.1.0 c.requires.whole c.requires.after.1.1).0
    (unit_of c.args.assignment.now (literals_of c.args.arena.now c.args.watch.0) c.other_of-other.result c.from_code-literal.result
    (other_in c.args.arena.now c.args.watch.0 c.args.watch.1 c.args.falsified c.other_of-other.result (stands_in c.args.arena.now c.args.before c.args.watch c.args.falsified c.requires.after.0 c.requires.after.1.0 c.requires.whole c.requires.after.1.1).1 c.requires.whole c.requires.attached (stands c.args.arena.now c.args.before c.args.watch c.args.falsified c.requires.after.0 c.requires.after.1.0 c.requires.whole c.requires.after.1.1) c.other_of-other.ensures)
    (subst (All (λ l. (l ≡ c.other_of-other.result) ⊎ IsFalse c.args.assignment.now l)) c.lits.ensures (c.find_free.ensures.none c.in-None.is))
    (not_of c.is_true.result c.args.assignment.now c.from_code-literal.result c.is_true.ensures c.if-is_true.false)
    (λ q. not_of c.is_true-in-None.result c.args.assignment.now c.negated.result c.is_true-in-None.ensures c.if-is_true-2.false (subst (Contains c.args.assignment.now) (sym c.negated.ensures) q))
    c.from_code-literal.ensures)
    c.in_ok-set-in-None.ensures.ok c.in_ok-push-in-None.ensures.items

pub returns-in_ok-push-in-None-clause-kept : goal.returns-in_ok-push-in-None-clause-kept
returns-in_ok-push-in-None-clause-kept c = λ e. (refl, (c.other_of-other.result, (c.other_of-other.ensures, set_of c.args.assignment.now c.set.new.self c.other_of-other.result c.from_code-literal.result c.in_ok-set-in-None.ensures.ok c.from_code-literal.ensures)))

pub returns-in-Some-clause-later : goal.returns-in-Some-clause-later
returns-in-Some-clause-later c =
    moved_later c.args.arena.now c.args.before c.args.watch c.args.falsified c.requires.after.0 c.requires.after.1.0 c.requires.whole c.requires.after.1.1 c.move_watch.new.self c.args.assignment.now c.args.reasons.now.items c.requires.aligned c.in-Some.free c.other_of-other.result c.requires.attached c.len-trues.ensures.consistent c.requires.falsified c.other_of-other.ensures
    c.in-Some.ensures.some.2 c.in-Some.ensures.some.1 (subst (λ (xs : List ℕ). Contains xs c.in-Some.free) c.lits.ensures c.in-Some.ensures.some.0) c.move_watch.ensures.chain c.move_watch.ensures.watches c.move_watch.ensures.others

pub returns-in-Some-clause-moved : goal.returns-in-Some-clause-moved
returns-in-Some-clause-moved c = λ e. (
  refl,
  moved c.args.arena.now c.args.before c.args.watch c.args.falsified c.requires.after.0 c.requires.after.1.0 c.requires.whole c.requires.after.1.1 c.move_watch.new.self c.args.assignment.now c.args.reasons.now.items c.requires.aligned c.in-Some.free c.other_of-other.result c.requires.attached c.len-trues.ensures.consistent c.requires.falsified c.other_of-other.ensures
      c.in-Some.ensures.some.2 c.in-Some.ensures.some.1 (subst (λ (xs : List ℕ). Contains xs c.in-Some.free) c.lits.ensures c.in-Some.ensures.some.0) c.move_watch.ensures.chain c.move_watch.ensures.watches c.move_watch.ensures.others,
)

pub set-requires : goal.set-requires
set-requires c = (
  not_of c.is_true.result c.args.assignment.now c.from_code-literal.result c.is_true.ensures c.if-is_true.false,
  λ q. not_of c.is_true-in-None.result c.args.assignment.now c.negated.result c.is_true-in-None.ensures c.if-is_true-2.false (subst (Contains c.args.assignment.now) (sym c.negated.ensures) q),
)
