use Rattle.std.proofs.Common.{◌≡◌, ◌+◌, ◌<◌, ◌≤◌, ◌^◌, ◌++◌, [], length, map}
use Rattle.thumb_model.specs.Listing.{places_of}
use Rattle.listing_parser.specs.Parsing.{own_line}
use Rattle.listing_parser.specs.Views.{line_view}
use Rattle.edited_listing.specs.Changes.{marks_of, rest_items}
use Rattle.edited_listing.specs.Items.{items_from}
use Rattle.edited_listing.specs.Emitting.{lines_from}
use Rattle.edited_listing.proofs.emitting.emit.Given as goal

abbrev pub invariant-loop-alloc : goal.invariant-loop-alloc
invariant-loop-alloc l = record {
  lines : l.lines.emitted ++ lines_from own_line l.passed.place (rest_items l.passed.from l.stands) l.lines.left ≡ lines_from own_line 0 (items_from 0 l.stands) (map line_view l.fn.given.items);
  many : l.passed.place + length (places_of l.lines.left) < 2 ^ 32;
  within : l.passed.from ≤ length l.stands;
  same : l.kept ≡ marks_of l.stands;
  none : l.new.items ≡ [];
}

abbrev pub decreases-loop-alloc : goal.decreases-loop-alloc
decreases-loop-alloc l = length l.lines.left
