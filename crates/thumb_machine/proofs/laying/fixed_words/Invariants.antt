use Rattle.std.proofs.Common.{map, take}
use Rattle.std.specs.List.{flat_map}
use Rattle.listing_parser.specs.Views.{line_view}
use Rattle.listing_parser.specs.Targets.{defined_in}
use Rattle.thumb_machine.specs.Words.{AreFixed}
use Rattle.thumb_machine.proofs.laying.fixed_words.Given as goal

abbrev pub invariant-loop-line : goal.invariant-loop-line
invariant-loop-line l = AreFixed l.layout.base l.listing (flat_map defined_in (map line_view (take l.line-index l.line-items))) l.words.entries
