use Rattle.std.proofs.Common.{◌-◌, ◌<◌, ◌≤◌}
use Rattle.kept_layout.proofs.kept.KeptLayout.near.Given as goal

abbrev pub invariant-loop-number : goal.invariant-loop-number
invariant-loop-number l = record {
  from : l.self.here < l.number;
  until : l.number ≤ l.wall;
}

abbrev pub decreases-loop-number : goal.decreases-loop-number
decreases-loop-number l = l.number - l.self.here
