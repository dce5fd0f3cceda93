use Rattle.std.proofs.Common.{◌≡◌, ◌-◌}
use Rattle.listing_draft.specs.Drafted.{lines_now}
use Rattle.flow_tidy.specs.ChainEnds.{AreEnds}
use Rattle.flow_tidy.specs.Quick.{IsQuick, IsSafe}
use Rattle.flow_tidy.proofs.Quickly.{NoneSooner}
use Rattle.flow_tidy.proofs.quick.first_change.Given as goal

abbrev pub invariant-loop-place : goal.invariant-loop-place
invariant-loop-place l = record {
  same : l.draft ≡ l.fn.draft;
  quick : IsQuick l.draft l.reached l.due;
  safe : IsSafe l.widest l.draft;
  ends : AreEnds l.draft l.ends;
  none : NoneSooner l.widest.base l.draft.gone (lines_now l.draft) l.place;
}

abbrev pub decreases-loop-place : goal.decreases-loop-place
decreases-loop-place l = l.places - l.place
