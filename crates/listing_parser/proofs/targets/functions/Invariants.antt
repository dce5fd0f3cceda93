use Rattle.std.proofs.Common.{◌≡◌, ◌||◌, List, ℕ, false, map, drop}
use Rattle.thumb_model.specs.Layout.{is_among}
use Rattle.listing_parser.specs.ToldView.{read_view}
use Rattle.listing_parser.specs.Targets.{functions}
use Rattle.listing_parser.proofs.targets.functions.Given as goal

abbrev pub invariant-loop-line : goal.invariant-loop-line
invariant-loop-line l = (q : List ℕ) → (is_among q (map (λ k. k.items) l.functions.keys) || is_among q (functions l.waits (map read_view (drop l.line-index l.lines)))) ≡ is_among q (functions false (map read_view l.lines))
