use Rattle.std.proofs.Common.{◌+◌, ◌-◌}
use Rattle.table_audit.proofs.Gathering.{Queue}
use Rattle.table_audit.proofs.lighter.few_lighter.Given as goal

abbrev pub invariant-loop-place : goal.invariant-loop-place
invariant-loop-place l = Queue l.costs l.alphabet l.limit (l.longest + 1) l.place l.numbers.items

abbrev pub decreases-loop-place : goal.decreases-loop-place
decreases-loop-place l = l.most - l.place
