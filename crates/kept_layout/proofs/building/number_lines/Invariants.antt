use Rattle.std.proofs.Common.{◌≡◌, ◌≤◌, ◌++◌, drop, map}
use Rattle.listing_parser.specs.Views.{line_view}
use Rattle.kept_layout.specs.Cutting.{numbers_from}
use Rattle.kept_layout.proofs.building.number_lines.Given as goal

abbrev pub invariant-loop-line : goal.invariant-loop-line
invariant-loop-line l = record {
  few : l.number ≤ l.line-index;
  numbers : l.numbers.items ++ numbers_from l.number (map line_view (drop l.line-index l.lines)) ≡ numbers_from 0 (map line_view l.lines);
}
