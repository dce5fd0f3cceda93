use Rattle.std.proofs.Common.{◌-◌, length}
use Rattle.kept_places.specs.Marks.{rank}
use Rattle.edited_listing.specs.Changes.{marks_of}
use Rattle.edited_listing.proofs.Running.{IsRun}
use Rattle.edited_listing.proofs.looks.run_from.Given as goal

abbrev pub invariant-loop-instrs : goal.invariant-loop-instrs
invariant-loop-instrs l = IsRun (record { given = l.given; stands = l.stands }) (rank (marks_of l.stands) l.place) l.most l.initial.kept l.kept l.instrs l.places.items l.before l.at

abbrev pub decreases-loop-instrs : goal.decreases-loop-instrs
decreases-loop-instrs l = l.most - length l.instrs
