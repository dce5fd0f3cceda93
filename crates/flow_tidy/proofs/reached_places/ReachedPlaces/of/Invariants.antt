use Rattle.std.proofs.Common.{◌≡◌, take}
use Rattle.flow_tidy.proofs.reached_places.ReachedPlaces.of.Given as goal

abbrev pub invariant-loop-place : goal.invariant-loop-place
invariant-loop-place l = l.marks.items ≡ take l.place l.reached
