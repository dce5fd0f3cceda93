use Rattle.std.proofs.Common.{◌≡◌, map, take}
use Rattle.listing_parser.specs.Views.{value_view}
use Rattle.listing_parser.proofs.replacing.copy_values.Given as goal

abbrev pub invariant-loop-value : goal.invariant-loop-value
invariant-loop-value l = map value_view l.copied.items ≡ map value_view (take l.value-index l.values)
