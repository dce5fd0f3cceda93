use Rattle.std.proofs.Common.{◌≡◌, ◌+◌, ◌||◌, ℕ, drop, length, map}
use Rattle.thumb_model.specs.Effect.{one_of}
use Rattle.thumb_model.specs.Listing.{places_of, label_places, labels_from, return_places}
use Rattle.listing_parser.specs.Views.{line_view}
use Rattle.kept_places.specs.Marks.{marked}
use Rattle.code_flow.proofs.points.mark_lines.Given as goal

abbrev pub invariant-loop-line : goal.invariant-loop-line
invariant-loop-line l = record {
  places : l.place + length (places_of (map line_view (drop l.line-index l.lines))) ≡ length (places_of (map line_view l.lines));
  len : length l.marks.items ≡ length l.initial.marks.items;
  marks : (q : ℕ) → (marked l.marks.items q || one_of q (label_places (places_of l.listing) (labels_from l.place (map line_view (drop l.line-index l.lines)))) || one_of q (return_places l.place (places_of (map line_view (drop l.line-index l.lines))))) ≡ (marked l.initial.marks.items q || one_of q (label_places (places_of l.listing) (labels_from 0 (map line_view l.lines))) || one_of q (return_places 0 (places_of (map line_view l.lines))));
}
