use Rattle.std.proofs.Common.{◌≡◌, ◌+◌, length, map, drop}
use Rattle.listing_parser.specs.Views.{line_view}
use Rattle.thumb_assembler.proofs.Assembled.{Progress}
use Rattle.thumb_assembler.proofs.assembling.assemble.Given as goal

abbrev pub invariant-loop-line : goal.invariant-loop-line
invariant-loop-line l = record {
  number : l.number ≡ l.line-index;
  progress : Progress l.base l.listing l.number (l.base + length l.bytes.items) (map line_view (drop l.line-index l.line-items)) l.bytes.items;
}
