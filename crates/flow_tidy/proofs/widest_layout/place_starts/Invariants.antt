use Rattle.std.proofs.Common.{◌≡◌, ◌++◌, drop, map}
use Rattle.listing_parser.specs.Views.{line_view}
use Rattle.flow_tidy.specs.WidestLayout.{places_begin}
use Rattle.flow_tidy.proofs.widest_layout.place_starts.Given as goal

abbrev pub invariant-loop-n : goal.invariant-loop-n
invariant-loop-n l = l.places.items ++ places_begin (drop l.n l.starts) (map line_view (drop l.n l.lines)) ≡ places_begin l.starts (map line_view l.lines)
