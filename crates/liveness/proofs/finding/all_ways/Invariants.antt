use Rattle.std.proofs.Common.{◌≡◌, length}
use Rattle.thumb_model.specs.Listing.{code_of}
use Rattle.liveness.specs.Ways.{AreAllWays}
use Rattle.liveness.proofs.finding.all_ways.Given as goal

abbrev pub invariant-loop-place : goal.invariant-loop-place
invariant-loop-place l = record { len : length l.all.items ≡ l.place; ways : AreAllWays (code_of l.listing) l.all.items }
