use Rattle.std.proofs.Common.{◌≡◌, ◌++◌, length, drop, map}
use Rattle.listing_parser.specs.Views.{line_view}
use Rattle.edited_listing.specs.Counting.{op_labels}
use Rattle.edited_listing.specs.Known.{last_labels}
use Rattle.edited_listing.proofs.labels.labels_of.Given as goal

abbrev pub invariant-loop-line : goal.invariant-loop-line
invariant-loop-line l = record {
  lasts : l.lasts.items ++ last_labels (length l.lasts.items) l.last (map line_view (drop l.line-index l.lines)) ≡ last_labels 0 0 (map line_view l.lines);
  labelled : l.labelled.items ++ op_labels (map line_view (drop l.line-index l.lines)) ≡ op_labels (map line_view l.lines);
}
