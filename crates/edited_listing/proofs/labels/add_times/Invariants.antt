use Rattle.std.proofs.Common.{◌≡◌, ◌++◌, replicate}
use Rattle.edited_listing.proofs.labels.add_times.Given as goal

abbrev pub invariant-loop-time : goal.invariant-loop-time
invariant-loop-time l = l.numbers.items ≡ l.initial.numbers.items ++ replicate l._time l.number
