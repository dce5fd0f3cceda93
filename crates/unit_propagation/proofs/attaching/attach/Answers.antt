use Rattle.std.proofs.Common.{◌≡◌, ◌≢◌, ℕ, length, arith, sym, refl, ap, ◌∙◌, subst}
use Rattle.std.specs.Prelude.{◌↔◌}
use Rattle.std.proofs.Common.{◌∷◌}
use Rattle.std.proofs.lemmas.List.{length-set}
use Rattle.clause_arena.specs.Contents.{Content, HasClause, Watches, watched, chain_of}
use Rattle.unit_propagation.proofs.Attached.{added_watching}
use Rattle.unit_propagation.proofs.attaching.attach.Goals as goal

pub watch-requires-clause-clause : goal.watch-requires-clause-clause
watch-requires-clause-clause c = (c.in_ok-at.ensures.free 0 (omega arith)).clause

pub watch-requires-clause-free : goal.watch-requires-clause-free
watch-requires-clause-free c = (c.in_ok-at.ensures.free 0 (omega arith)).free

pub watch-requires-2-clause-clause : goal.watch-requires-2-clause-clause
watch-requires-2-clause-clause c = subst (λ (x : Content). HasClause x c.in_ok-at.at) (sym c.watch.ensures.chain) (c.in_ok-at.ensures.free 1 (omega arith)).clause

pub watch-requires-2-clause-free : goal.watch-requires-2-clause-free
watch-requires-2-clause-free c = λ l w. (c.in_ok-at.ensures.free 1 (omega arith)).free l ((c.watch.ensures.others c.in_ok-at.at 1 l (λ e f. absurd (omega arith))).0 w)

one_size : (before after : Content) (at slot l : ℕ) → after ≡ watched before at slot l → length after.chains ≡ length before.chains
one_size before after at slot l e = ap (λ (x : Content). length x.chains) e ∙ length-set before.chains l ((at, slot) ∷ chain_of before l)

size : (pushed first later : Content) (at l m : ℕ) → first ≡ watched pushed at 0 l → later ≡ watched first at 1 m → length later.chains ≡ length pushed.chains
size pushed first later at l m e f = one_size first later at 1 m f ∙ one_size pushed first at 0 l e

others : (pushed first later : Content) (at : ℕ) → ((r s l : ℕ) → (r ≡ at → s ≢ 0) → Watches first r s l ↔ Watches pushed r s l) → ((r s l : ℕ) → (r ≡ at → s ≢ 1) → Watches later r s l ↔ Watches first r s l) → (r s l : ℕ) → r ≢ at → Watches later r s l ↔ Watches pushed r s l
others pushed first later at f g r s l n = (
  (λ w. (f r s l (λ e. absurd (n e))).0 ((g r s l (λ e. absurd (n e))).0 w)),
  (λ w. (g r s l (λ e. absurd (n e))).1 ((f r s l (λ e. absurd (n e))).1 w)),
)

pub returns-clause-added : goal.returns-clause-added
returns-clause-added c = added_watching c.args.arena.now c.push.new.self c.watch-2.new.self c.in_ok-at.at c.args.literals.now c.in_ok-at.ensures.ok c.in_ok-at.ensures.later
    (ap (λ (x : Content). x.clauses) c.watch-2.ensures.chain ∙ ap (λ (x : Content). x.clauses) c.watch.ensures.chain) (size c.push.new.self c.watch.new.self c.watch-2.new.self c.in_ok-at.at c.args.first c.args.second c.watch.ensures.chain c.watch-2.ensures.chain)
    c.literals-count.ensures.whole (others c.push.new.self c.watch.new.self c.watch-2.new.self c.in_ok-at.at c.watch.ensures.others c.watch-2.ensures.others)
    c.args.first c.args.second
    ((c.watch-2.ensures.others c.in_ok-at.at 0 c.args.first (λ e f. absurd (omega arith))).1 ((c.watch.ensures.watches c.args.first).1 refl)) ((c.watch-2.ensures.watches c.args.second).1 refl)
    c.requires.different c.requires.first_in c.requires.second_in
