use Rattle.std.proofs.Common.{◌≡◌, ◌+◌, ◌≤◌, drop, length, map}
use Rattle.thumb_model.specs.Listing.{places_of}
use Rattle.listing_parser.specs.Views.{line_view}
use Rattle.thumb_machine.specs.Naming.{naming_of}
use Rattle.thumb_machine.specs.Walking.{all_pass, points_from}
use Rattle.thumb_machine.proofs.naming.Naming.points_pass.Given as goal

abbrev pub invariant-loop-line : goal.invariant-loop-line
invariant-loop-line g l = record {
  places : l.place + length (places_of (map line_view (drop l.line-index l.line-items))) ≡ length (places_of l.listing);
  few : l.call ≤ l.place;
  passes : all_pass g.T.PointTest.passes g.T.PointTest.after l.test (points_from (naming_of l.self) (places_of l.listing) l.call l.place (map line_view (drop l.line-index l.line-items)))
      ≡ all_pass g.T.PointTest.passes g.T.PointTest.after l.fn.test (points_from (naming_of l.self) (places_of l.listing) 0 0 l.listing);
}
