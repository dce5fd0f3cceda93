use Rattle.std.proofs.Common.{◌≡◌, ◌-◌, ◌≤◌, ℕ}
use Rattle.thumb_instr.specs.Items.{has}
use Rattle.liveness.specs.Passing.{reads_from, writes_from}
use Rattle.liveness.proofs.window.window_of.Given as goal

abbrev pub invariant-loop-at : goal.invariant-loop-at
invariant-loop-at l = record {
  above : l.first ≤ l.at;
  below : l.at ≤ l.end;
  reads : (x : ℕ) → has l.reads.bits x ≡ reads_from l.ways l.at (l.end - l.at) x;
  writes : (x : ℕ) → has l.writes.bits x ≡ writes_from l.ways l.at (l.end - l.at) x;
}

abbrev pub decreases-loop-at : goal.decreases-loop-at
decreases-loop-at l = l.at
