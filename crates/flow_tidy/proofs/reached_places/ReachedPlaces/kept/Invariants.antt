use Rattle.std.proofs.Common.{◌≡◌, ◌++◌, drop}
use Rattle.flow_tidy.specs.Quick.{left}
use Rattle.flow_tidy.proofs.reached_places.ReachedPlaces.kept.Given as goal

abbrev pub invariant-loop-place : goal.invariant-loop-place
invariant-loop-place l = l.marks.items ++ left (drop l.place l.draft.gone) (drop l.place l.reached) ≡ left l.draft.gone l.reached
