use Rattle.std.proofs.Common.{◌≡◌, ◌++◌, map, drop}
use Rattle.listing_parser.specs.Parsing.{line_mentioning}
use Rattle.listing_parser.specs.Targets.{aimed_lines}
use Rattle.listing_parser.specs.Views.{line_view}
use Rattle.listing_parser.proofs.retargeting.retargeted_lines.Given as goal

abbrev pub invariant-loop-n : goal.invariant-loop-n
invariant-loop-n l =
    map line_view l.out.items ++ aimed_lines line_mentioning l.passing l.name (map line_view (drop l.n l.lines))
    ≡ aimed_lines line_mentioning l.place l.name (map line_view l.lines)
