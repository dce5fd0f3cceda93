use Rattle.std.proofs.Common.{◌≡◌, ℕ, ◌<◌, ◌≤◌, Some, map, slice_get}
use Rattle.thumb_model.specs.Listing.{ListingLine}
use Rattle.listing_parser.specs.Grammar.{longest_line}
use Rattle.listing_parser.specs.Views.{line_view}
use Rattle.flow_tidy.specs.Tidying.{line_length}
use Rattle.flow_tidy.proofs.limits.are_short.Given as goal

abbrev pub invariant-loop-line : goal.invariant-loop-line
invariant-loop-line l = (k : ℕ) (line : ListingLine) → k < l.line-index → slice_get (map line_view l.lines) k ≡ Some line → line_length line.text ≤ longest_line
