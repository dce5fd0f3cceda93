use Rattle.std.proofs.Common.{◌≡◌, ◌++◌, map, drop}
use Rattle.listing_parser.specs.Views.{line_view}
use Rattle.listing_parser.specs.Parsing.{text_of_lines}
use Rattle.listing_parser.proofs.parsing.print.Given as goal

abbrev pub invariant-loop-line : goal.invariant-loop-line
invariant-loop-line l = l.text.items ++ text_of_lines (map line_view (drop l.line-index l.line-items)) ≡ text_of_lines l.listing
