use Rattle.std.proofs.Common.{◌≡◌, ◌++◌, map, drop}
use Rattle.thumb_model.specs.Replaced.{without}
use Rattle.listing_parser.specs.Views.{line_view}
use Rattle.listing_parser.proofs.replacing.add_without.Given as goal

abbrev pub invariant-loop-line : goal.invariant-loop-line
invariant-loop-line l = map line_view l.out.items ++ without l.left (map line_view (drop l.line-index l.lines)) ≡ map line_view l.initial.out.items ++ without l.skipped (map line_view l.lines)
