use Rattle.std.proofs.Common.{◌≡◌, ◌++◌, map, drop}
use Rattle.thumb_model.specs.Replaced.{replaced_lines}
use Rattle.listing_parser.specs.Views.{line_view}
use Rattle.listing_parser.specs.Parsing.{own_line}
use Rattle.listing_parser.proofs.replacing.replaced_lines.Given as goal

abbrev pub invariant-loop-n : goal.invariant-loop-n
invariant-loop-n l =
    map line_view l.out.items ++ replaced_lines own_line l.passing l.count l.instrs (map line_view (drop l.n l.lines))
    ≡ replaced_lines own_line l.place l.count l.instrs (map line_view l.lines)
