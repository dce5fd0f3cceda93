use Rattle.std.proofs.Common.{◌-◌, length}
use Rattle.kept_places.proofs.Ways.{ComesBy}
use Rattle.kept_places.proofs.leading.end.Given as goal

abbrev pub invariant-loop-end : goal.invariant-loop-end
invariant-loop-end l = ComesBy l.next l.place l.end

abbrev pub decreases-loop-end : goal.decreases-loop-end
decreases-loop-end l = length l.next - l.end
