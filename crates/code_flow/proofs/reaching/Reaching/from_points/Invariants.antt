use Rattle.std.proofs.Common.{◌≡◌, ℕ, ◌<◌, true, [], length}
use Rattle.thumb_model.specs.Listing.{code_of, places_of, IsPoint}
use Rattle.kept_places.specs.Marks.{marked}
use Rattle.code_flow.specs.Reaching.{left, IsReaching}
use Rattle.code_flow.proofs.reaching.Reaching.from_points.Given as goal

abbrev pub invariant-loop-place : goal.invariant-loop-place
invariant-loop-place l = record {
  reaching : IsReaching (code_of l.listing) [] l.reaching;
  points : (q : ℕ) → q < l.place → IsPoint (code_of l.listing) q → marked l.reaching.marks.items q ≡ true;
  left : left l.reaching ≡ length (places_of l.listing);
}
