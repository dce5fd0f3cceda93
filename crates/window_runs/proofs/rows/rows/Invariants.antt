use Rattle.std.proofs.Common.{◌≡◌, ◌++◌, false, map, drop}
use Rattle.listing_parser.specs.Views.{line_view}
use Rattle.window_runs.specs.Rows.{rows_from}
use Rattle.window_runs.proofs.rows.rows.Given as goal

abbrev pub invariant-loop-line : goal.invariant-loop-line
invariant-loop-line l = l.rows.items ++ rows_from l.joined (map line_view (drop l.line-index l.lines)) ≡ rows_from false (map line_view l.lines)
