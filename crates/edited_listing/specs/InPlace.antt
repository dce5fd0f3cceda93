-- What the code's lines in place stand for: those that are emitted, and those that are left.
use Rattle.std.specs.Prelude.{◌≤◌, ◌++◌, drop, length, map, take}
use Rattle.listing_parser.specs.Views.{line_view}
use Rattle.edited_listing.specs.Progress.{Progress}
use Rattle.edited_listing.specs.declared.in_place.InPlace.TheInside.{Inside}

abbrev pub progress : Inside → Progress
progress s = record {
  emitted = take s.done (map line_view s.lines.items) ++ map line_view s.waiting.items;
  left = drop s.next (map line_view s.lines.items);
}

pub record IsInPlace (s : Inside) : Type 0 where
  pub before : s.done ≤ s.next
  pub within : s.next ≤ length s.lines.items
