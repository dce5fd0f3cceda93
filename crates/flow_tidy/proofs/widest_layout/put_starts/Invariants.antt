use Rattle.std.proofs.Common.{◌≡◌, ◌++◌, replicate}
use Rattle.flow_tidy.proofs.widest_layout.put_starts.Given as goal

abbrev pub invariant-loop-place : goal.invariant-loop-place
invariant-loop-place l = l.starts.items ≡ l.fn.starts.items ++ replicate l._place l.start
