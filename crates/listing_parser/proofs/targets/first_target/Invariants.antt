use Rattle.std.proofs.Common.{◌≡◌, ◌+◌, map, drop}
use Rattle.listing_parser.specs.Views.{line_view}
use Rattle.listing_parser.specs.Targets.{first_target}
use Rattle.listing_parser.proofs.targets.first_target.Given as goal

abbrev pub invariant-loop-n : goal.invariant-loop-n
invariant-loop-n l =
    first_target l.listing (map (λ k. k.items) l.functions.keys) (l.n + 1) (map line_view (drop l.n l.line-items)) ≡ first_target l.listing (map (λ k. k.items) l.functions.keys) 1 l.listing
