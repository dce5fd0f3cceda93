use Rattle.flow_tidy.specs.DuePlaces.{IsKnown}
use Rattle.flow_tidy.specs.Tidying.{setting}
use Rattle.flow_tidy.proofs.Making.{NoneBefore}
use Rattle.flow_tidy.proofs.searching.first_change.Given as goal

abbrev pub invariant-loop-place : goal.invariant-loop-place
invariant-loop-place l = record {
  known : IsKnown l.listing l.laid l.reached l.due;
  none : NoneBefore (setting l.laid.base) l.place l.listing;
}
