use Rattle.std.proofs.Common.{◌≡◌, ◌≤◌, ◌++◌, length, map}
use Rattle.listing_parser.specs.Grammar.{labels_at_front}
use Rattle.listing_parser.proofs.reading.labels.Given as goal

abbrev pub invariant-loop-name : goal.invariant-loop-name
invariant-loop-name l = record {
  names : map (λ n. n.items) l.names.items ++ (labels_at_front l.rest).0 ≡ (labels_at_front l.bytes).0;
  after : (labels_at_front l.rest).1 ≡ (labels_at_front l.bytes).1;
  within : length l.rest ≤ length l.bytes;
}

abbrev pub decreases-loop-name : goal.decreases-loop-name
decreases-loop-name l = length l.rest
