use Rattle.std.proofs.Common.{◌≡◌, ◌++◌, drop, false, map}
use Rattle.thumb_model.specs.Listing.{Words}
use Rattle.listing_parser.specs.Views.{value_view}
use Rattle.edited_listing.specs.Counting.{labels_in}
use Rattle.edited_listing.proofs.labels.add_words.Given as goal

abbrev pub invariant-loop-value : goal.invariant-loop-value
invariant-loop-value l = l.labels.items ++ labels_in false (Words (map value_view (drop l._value-index l.values))) ≡ l.initial.labels.items ++ labels_in false (Words (map value_view l.values))
