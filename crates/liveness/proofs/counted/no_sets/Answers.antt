use Rattle.std.proofs.Common.{◌∙◌, ap, List, ℕ, get_or, length}
use Rattle.std.proofs.lemmas.List.{get_or-replicate}
use Rattle.thumb_instr.specs.declared.items.Items.{Items}
use Rattle.thumb_instr.specs.Items.{has}
use Rattle.liveness.specs.Live.{set_at}
use Rattle.liveness.proofs.Counts.{none_counted, nothing_at}
use Rattle.liveness.proofs.counted.no_sets.Goals as goal

pub returns-clause-none : goal.returns-clause-none
returns-clause-none c = λ p x. ap (λ (ss : List Items). has (set_at ss p) x) (c.in_ok-vec.ensures.items_if_clones_equal (λ y e. e)) ∙ nothing_at c.args.count p x c.none.result (c.none.ensures x)

pub returns-clause-counted : goal.returns-clause-counted
returns-clause-counted c = none_counted c.args._marks.now _ (ap length (c.in_ok-vec-2.ensures.items_if_clones_equal (λ y e. e)))
    (λ x l. ap (λ (ns : List ℕ). get_or ns x 0) (c.in_ok-vec-2.ensures.items_if_clones_equal (λ y e. e)) ∙ get_or-replicate 19 x 0 0 l) c.none-2.ensures
    (λ p x. ap (λ (ss : List Items). has (set_at ss p) x) (c.in_ok-vec.ensures.items_if_clones_equal (λ y e. e)) ∙ nothing_at c.args.count p x c.none.result (c.none.ensures x))
