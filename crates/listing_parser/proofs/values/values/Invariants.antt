use Rattle.std.proofs.Common.{◌≡◌, length, map}
use Rattle.ascii_scan.specs.Tokens.{tokens}
use Rattle.listing_parser.specs.Values.{values}
use Rattle.listing_parser.specs.Views.{value_view}
use Rattle.listing_parser.proofs.ValueLemmas.{with_values}
use Rattle.listing_parser.proofs.values.values.Given as goal

abbrev pub invariant-loop-values : goal.invariant-loop-values
invariant-loop-values l = with_values (map value_view l.values.items) (values (tokens l.rest)) ≡ values (tokens l.bytes)

abbrev pub decreases-loop-values : goal.decreases-loop-values
decreases-loop-values l = length (tokens l.rest)
