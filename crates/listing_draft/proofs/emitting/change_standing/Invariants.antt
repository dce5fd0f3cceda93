use Rattle.std.proofs.Common.{◌≡◌, ◌+◌, ◌++◌, drop, length, map, take}
use Rattle.thumb_model.specs.Listing.{places_of}
use Rattle.listing_parser.specs.Views.{line_view}
use Rattle.listing_draft.specs.Drafted.{now_of}
use Rattle.listing_draft.specs.Invariant.{names_of}
use Rattle.listing_draft.proofs.emitting.change_standing.Given as goal

abbrev pub invariant-loop-n : goal.invariant-loop-n
invariant-loop-n l = record {
  many : length l.lines.items ≡ l.n-end;
  passed : l.place + length (places_of (drop l.n (map line_view l.lines.items))) ≡ length l.kept;
  changed : take l.n (map line_view l.lines.items) ++ now_of (drop l.place l.kept) (drop l.place (names_of l.aims)) (drop l.n (map line_view l.lines.items)) ≡ now_of l.kept (names_of l.aims) (map line_view l.fn.lines.items);
}
