use Rattle.std.proofs.Common.{◌≡◌, map, take}
use Rattle.listing_parser.proofs.replacing.copy_names.Given as goal

abbrev pub invariant-loop-name : goal.invariant-loop-name
invariant-loop-name l = map (λ n. n.items) l.copied.items ≡ map (λ n. n.items) (take l.name-index l.names)
