use Rattle.std.proofs.Common.{◌≡◌, ◌+◌, ◌*◌, ◌++◌, drop, map}
use Rattle.listing_parser.specs.Views.{value_view}
use Rattle.label_layout.specs.Addresses.{word_addresses}
use Rattle.label_layout.proofs.laying.add_words.Given as goal

abbrev pub invariant-loop : goal.invariant-loop
invariant-loop l = record {
  at : l.at ≡ l.fn.at + 4 * l.index;
  places : l.places.items ++ word_addresses l.at (map value_view (drop l.index l.values)) ≡ l.fn.places.items ++ word_addresses l.fn.at (map value_view l.values);
}
