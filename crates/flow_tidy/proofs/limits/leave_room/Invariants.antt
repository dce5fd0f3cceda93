use Rattle.std.proofs.Common.{◌≡◌, ℕ, ◌<◌, ◌≤◌, Some, map, take, slice_get}
use Rattle.thumb_model.specs.Listing.{ListingLine}
use Rattle.listing_parser.specs.Grammar.{longest_line, most_lines}
use Rattle.listing_parser.specs.Views.{line_view}
use Rattle.flow_tidy.specs.Tidying.{line_length}
use Rattle.flow_tidy.specs.Quick.{room_taken}
use Rattle.flow_tidy.proofs.limits.leave_room.Given as goal

abbrev pub invariant-loop-line : goal.invariant-loop-line
invariant-loop-line l = record {
  taken : l.taken ≡ room_taken (take l.line-index (map line_view l.lines));
  few : l.taken ≤ most_lines;
  short : (k : ℕ) (line : ListingLine) → k < l.line-index → slice_get (map line_view l.lines) k ≡ Some line → line_length line.text ≤ longest_line;
}
