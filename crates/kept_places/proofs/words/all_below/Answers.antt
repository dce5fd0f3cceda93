use Rattle.std.proofs.Common.{◌-◌, ◌*◌, ◌%◌, ◌^◌, ◌++◌, ◌∷◌, [], ap, ◌∙◌, ℕ, List}
use Rattle.kept_places.proofs.Bits.{all_have}
use Rattle.kept_places.proofs.words.all_below.Goals as goal

pub returns-clause-all : goal.returns-clause-all
returns-clause-all c = all_have c.args.count c.push.new.self.items (c.in_ok-push.ensures.items ∙ ap (λ (l : List ℕ). l ++ (1 * 2 ^ (c.args.count % 64) % 2 ^ 64 - 1) ∷ []) (c.in_ok-words.ensures.items_if_clones_equal (λ y e. e)))
