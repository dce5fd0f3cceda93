use Rattle.std.proofs.Common.{◌≡◌, ◌+◌, ◌++◌, take, drop}
use Rattle.liveness.proofs.changing.leave_out.Given as goal

abbrev pub invariant-loop : goal.invariant-loop
invariant-loop l = l.sets.items ≡ take l.place l.fn.sets.items ++ drop (l.place + l.counter) l.fn.sets.items
