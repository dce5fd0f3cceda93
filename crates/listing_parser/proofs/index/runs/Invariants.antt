use Rattle.std.proofs.Common.{◌≡◌, ◌≤◌, drop, map, length}
use Rattle.listing_parser.specs.Views.{line_view}
use Rattle.listing_parser.specs.TableWords.{runs_from, words_from}
use Rattle.listing_parser.proofs.index.runs.Given as goal

abbrev pub decreases-loop-at : goal.decreases-loop-at
decreases-loop-at l = l.at

abbrev pub invariant-loop-at : goal.invariant-loop-at
invariant-loop-at l = record {
  within : l.at ≤ length l.lines;
  size : length l.runs.items ≡ length l.lines;
  behind : l.behind ≡ words_from (map line_view (drop l.at l.lines));
  runs : drop l.at l.runs.items ≡ runs_from (map line_view (drop l.at l.lines));
}
