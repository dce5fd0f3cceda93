use Rattle.std.proofs.Common.{◌≡◌, map, take}
use Rattle.listing_parser.specs.Views.{line_view}
use Rattle.listing_parser.proofs.replacing.copy_lines.Given as goal

abbrev pub invariant-loop-line : goal.invariant-loop-line
invariant-loop-line l = map line_view l.copied.items ≡ map line_view (take l.line-index l.lines)
