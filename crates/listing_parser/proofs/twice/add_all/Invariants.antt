use Rattle.std.proofs.Common.{◌≡◌, ◌++◌, map, take, drop}
use Rattle.listing_parser.proofs.FirstTwice.{is_again}
use Rattle.listing_parser.proofs.twice.add_all.Given as goal

abbrev pub invariant-loop-name : goal.invariant-loop-name
invariant-loop-name l = record {
  again : is_again (map (λ k. k.items) l.known.keys) (map (λ n. n.items) (drop l.name-index l.names)) ≡ is_again (map (λ k. k.items) l.initial.known.keys) (map (λ n. n.items) l.names);
  known : map (λ k. k.items) l.known.keys ≡ map (λ k. k.items) l.initial.known.keys ++ map (λ n. n.items) (take l.name-index l.names);
}
