use Rattle.std.proofs.Common.{◌≡◌, ◌≤◌, ◌+◌, ◌-◌, ◌++◌, length, drop, true}
use Rattle.std.specs.Prelude.{nat_eq}
use Rattle.window_runs.specs.Runs.{run}
use Rattle.window_runs.proofs.runs.run.Given as goal

abbrev pub invariant-loop-seq : goal.invariant-loop-seq
invariant-loop-seq l = record {
  few : length l.seq ≤ l.most;
  run : l.seq ++ run (nat_eq (length l.seq) 0) (l.most - length l.seq) (drop (l.place + length l.seq) l.rows) ≡ run true l.most (drop l.place l.rows);
}

abbrev pub decreases-loop-seq : goal.decreases-loop-seq
decreases-loop-seq l = l.most - length l.seq
