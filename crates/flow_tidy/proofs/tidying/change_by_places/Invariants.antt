use Rattle.std.proofs.Common.{◌+◌, ◌≤◌}
use Rattle.listing_draft.specs.Drafted.{lines_now}
use Rattle.flow_tidy.specs.Made.{AreMadeBy}
use Rattle.flow_tidy.specs.ChainEnds.{AreEnds}
use Rattle.flow_tidy.specs.Quick.{IsQuick, IsSafe}
use Rattle.flow_tidy.specs.Tidying.{setting}
use Rattle.flow_tidy.proofs.Ends.{room_of}
use Rattle.flow_tidy.proofs.tidying.change_by_places.Given as goal

abbrev pub invariant-loop-ends : goal.invariant-loop-ends
invariant-loop-ends l = record {
  made : AreMadeBy (setting l.widest.base) (lines_now l.fn.draft) (lines_now l.draft) l.changes;
  room : l.changes + room_of (lines_now l.draft) ≤ room_of (lines_now l.fn.draft);
  safe : IsSafe l.widest l.draft;
  quick : IsQuick l.draft l.reached l.due;
  ends : AreEnds l.draft l.ends;
}

abbrev pub decreases-loop-ends : goal.decreases-loop-ends
decreases-loop-ends l = room_of (lines_now l.draft)
