use Rattle.std.proofs.Common.{◌-◌}
use Rattle.kept_places.proofs.Ways.{IsShortened}
use Rattle.kept_places.proofs.leading.shorten.Given as goal

abbrev pub invariant-loop-at : goal.invariant-loop-at
invariant-loop-at l = IsShortened l.initial.next.items l.next.items l.at l.end

abbrev pub decreases-loop-at : goal.decreases-loop-at
decreases-loop-at l = l.end - l.at
