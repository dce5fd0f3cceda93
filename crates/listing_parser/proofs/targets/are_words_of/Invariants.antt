use Rattle.std.proofs.Common.{◌≡◌, map, drop}
use Rattle.listing_parser.specs.Views.{value_view}
use Rattle.listing_parser.specs.Targets.{are_words_of}
use Rattle.listing_parser.proofs.targets.are_words_of.Given as goal

abbrev pub invariant-loop-value : goal.invariant-loop-value
invariant-loop-value l = are_words_of l.listing (map (λ k. k.items) l.functions.keys) (map value_view (drop l.value-index l.values)) ≡ are_words_of l.listing (map (λ k. k.items) l.functions.keys) (map value_view l.values)
