use Rattle.std.proofs.Common.{◌≡◌, ◌-◌}
use Rattle.fingerprints.specs.Print.{print_from}
use Rattle.fingerprints.specs.Columns.{lanes_from, states_of}
use Rattle.fingerprints.proofs.print.with_column.Given as goal

-- mixing the remaining lanes into the print so far yields the whole print
abbrev pub invariant-loop-i : goal.invariant-loop-i
invariant-loop-i l = print_from l.mask.items.bits l.h (lanes_from l.column.lanes l.i (l.column.count - l.i)) ≡ print_from l.mask.items.bits l.print (states_of l.column)
