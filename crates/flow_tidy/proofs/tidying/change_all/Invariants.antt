use Rattle.std.proofs.Common.{◌≡◌, ◌+◌, ◌≤◌}
use Rattle.flow_tidy.specs.DuePlaces.{IsKnown}
use Rattle.flow_tidy.specs.Made.{AreMadeBy}
use Rattle.flow_tidy.specs.Tidying.{setting}
use Rattle.flow_tidy.proofs.Ends.{room_of}
use Rattle.flow_tidy.proofs.tidying.change_all.Given as goal

abbrev pub invariant-loop-due : goal.invariant-loop-due
invariant-loop-due l = record {
  made : AreMadeBy (setting l.fn.laid.base) l.fn.listing l.listing l.changes;
  room : l.changes + room_of l.listing ≤ room_of l.fn.listing;
  base : l.laid.base ≡ l.fn.laid.base;
  known : IsKnown l.listing l.laid l.reached l.due;
}

abbrev pub decreases-loop-due : goal.decreases-loop-due
decreases-loop-due l = room_of l.listing
