use Rattle.edited_listing.proofs.Rest.{IsPassed}
use Rattle.edited_listing.proofs.passing.pass.Given as goal

abbrev pub invariant-loop-left : goal.invariant-loop-left
invariant-loop-left l = IsPassed l.stands l.from l.initial.left l.initial.kept l.at l.left l.kept

abbrev pub decreases-loop-left : goal.decreases-loop-left
decreases-loop-left l = l.left
