use Rattle.std.proofs.Common.{◌≡◌, ◌≤◌, ◌^◌, ◌++◌, drop, map}
use Rattle.listing_parser.specs.Views.{line_view}
use Rattle.steady_layout.specs.Steady.{first, widest_end}
use Rattle.steady_layout.specs.Starts.{starts_from}
use Rattle.steady_layout.proofs.laying.lay_widest.Given as goal

abbrev pub invariant-loop-line : goal.invariant-loop-line
invariant-loop-line l = record {
  in_code : l.here.at ≤ 2 ^ 29;
  end : widest_end l.here (map line_view (drop l.line-index l.lines)) ≡ widest_end (first l.base) (map line_view l.lines);
  starts : l.starts.items ++ starts_from l.here (map line_view (drop l.line-index l.lines)) ≡ starts_from (first l.base) (map line_view l.lines);
}
