use Rattle.std.proofs.Common.{[], ◌+◌, ◌≤◌, length}
use Rattle.thumb_model.specs.Listing.{code_of, places_of}
use Rattle.code_flow.specs.Reaching.{left, HasAllPoints, IsReaching}
use Rattle.code_flow.proofs.reaching.reached.Given as goal

abbrev pub invariant-loop-place : goal.invariant-loop-place
invariant-loop-place g l = record {
  reaching : IsReaching (code_of l.listing) [] l.reaching;
  points : HasAllPoints (code_of l.listing) l.reaching.marks.items;
  cost : l.steps + left l.reaching ≤ l.fn.steps + length (places_of l.listing);
}

abbrev pub decreases-loop-place : goal.decreases-loop-place
decreases-loop-place g l = left l.reaching
