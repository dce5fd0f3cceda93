use Rattle.std.proofs.Common.{◌≡◌, drop, map}
use Rattle.listing_parser.specs.Views.{line_view}
use Rattle.steady_layout.specs.Steady.{labels_in, sets_in}
use Rattle.steady_layout.proofs.Lines.{steady_each}
use Rattle.steady_layout.proofs.judging.all_steady.Given as goal

abbrev pub invariant-loop-n : goal.invariant-loop-n
invariant-loop-n l =
    steady_each (labels_in l.base l.listing) (sets_in l.listing) l.base (drop l.n l.starts) (map line_view (drop l.n l.line-items)) ≡ steady_each (labels_in l.base l.listing) (sets_in l.listing) l.base l.starts l.listing
