use Rattle.std.proofs.Common.{length, map}
use Rattle.listing_parser.specs.Parsing.{own_line}
use Rattle.listing_parser.specs.Views.{line_view}
use Rattle.edited_listing.specs.Changes.{rest_items}
use Rattle.edited_listing.proofs.Emits.{AreEmitted}
use Rattle.edited_listing.proofs.emitting.emit_new.Given as goal

abbrev pub invariant-loop-instr : goal.invariant-loop-instr
invariant-loop-instr l = AreEmitted own_line l.home l.from l.stands (map line_view l.initial.out.items) l.initial.kept l.at (map line_view l.out.items) l.kept

abbrev pub decreases-loop-instr : goal.decreases-loop-instr
decreases-loop-instr l = length (rest_items l.at l.stands)
