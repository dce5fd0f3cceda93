use Rattle.std.proofs.Common.{◌≡◌, ◌+◌, [], map, drop}
use Rattle.listing_parser.specs.Views.{line_view}
use Rattle.listing_parser.proofs.FirstTwice.{first_twice}
use Rattle.listing_parser.proofs.twice.first_twice.Given as goal

abbrev pub invariant-loop-n : goal.invariant-loop-n
invariant-loop-n l = first_twice (l.n + 1) (map (λ k. k.items) l.known.keys) (map line_view (drop l.n l.lines)) ≡ first_twice 1 [] (map line_view l.lines)
