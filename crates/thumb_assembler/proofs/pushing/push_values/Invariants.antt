use Rattle.std.proofs.Common.{map, drop}
use Rattle.listing_parser.specs.Views.{value_view}
use Rattle.thumb_assembler.proofs.Pushed.{Front}
use Rattle.thumb_assembler.proofs.pushing.push_values.Given as goal

abbrev pub invariant-loop-value : goal.invariant-loop-value
invariant-loop-value l = Front l.layout.base l.listing (map value_view l.values) l.initial.bytes.items (map value_view (drop l.value-index l.values)) l.bytes.items
