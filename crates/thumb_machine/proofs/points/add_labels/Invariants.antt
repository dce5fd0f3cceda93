use Rattle.std.proofs.Common.{◌≡◌, ◌+◌, ◌++◌, ℕ, List, drop, length, map, nat_eq}
use Rattle.std.specs.HashMap.{get}
use Rattle.thumb_model.specs.Listing.{labels_from, places_of}
use Rattle.thumb_model.specs.Naming.{points_of}
use Rattle.thumb_model.specs.Steps.{point_among}
use Rattle.listing_parser.specs.Views.{line_view}
use Rattle.thumb_machine.specs.Making.{merged}
use Rattle.thumb_machine.specs.Naming.{naming_of}
use Rattle.thumb_machine.proofs.points.add_labels.Given as goal

abbrev pub invariant-loop-line : goal.invariant-loop-line
invariant-loop-line l = record {
  places : l.place + length (places_of (map line_view (drop l.line-index l.lines))) ≡ length (places_of (map line_view l.lines));
  completes : (w : ℕ) (rest : List (ℕ × ℕ))
      → merged (get nat_eq l.points w) (point_among w (points_of (naming_of l.naming) (places_of l.listing) (labels_from l.place (map line_view (drop l.line-index l.lines))) ++ rest))
      ≡ merged (get nat_eq l.fn.points w) (point_among w (points_of (naming_of l.naming) (places_of l.listing) (labels_from 0 (map line_view l.lines)) ++ rest));
}
