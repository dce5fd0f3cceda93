use Rattle.std.proofs.Common.{◌≡◌, ◌+◌, ◌++◌, drop, length, map, take}
use Rattle.thumb_model.specs.Listing.{places_of}
use Rattle.listing_parser.specs.Views.{line_view}
use Rattle.listing_draft.specs.Drafted.{now_of}
use Rattle.listing_draft.specs.Invariant.{names_of}
use Rattle.listing_draft.proofs.emitting.emit_behind.Given as goal

abbrev pub invariant-loop-line : goal.invariant-loop-line
invariant-loop-line l = record {
  emitted : map line_view l.out.items ++ (take l.standing (map line_view l.line-iterator.rest.items) ++ now_of (drop l.place l.kept) (drop l.place (names_of l.aims)) (drop l.standing (map line_view l.line-iterator.rest.items))) ≡ take l.fn.passed.lines (map line_view l.fn.lines.items) ++ now_of (drop l.fn.passed.places l.kept) (drop l.fn.passed.places (names_of l.aims)) (drop l.fn.passed.lines (map line_view l.fn.lines.items));
  passed : l.place + length (places_of (drop l.standing (map line_view l.line-iterator.rest.items))) ≡ length l.kept;
}
