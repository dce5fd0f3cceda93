use Rattle.std.proofs.Common.{◌≡◌, ◌-◌}
use Rattle.fingerprints.specs.Print.{print_from}
use Rattle.fingerprints.specs.Columns.{lanes_from}
use Rattle.fingerprints.proofs.print.with_lanes.Given as goal

-- mixing the remaining lanes into the prints so far yields the whole prints
abbrev pub invariant-loop-i : goal.invariant-loop-i
invariant-loop-i l = record {
  a : print_from l.mask.items.bits l.h.a (lanes_from l.a l.i (l.count - l.i)) ≡ print_from l.mask.items.bits l.fn.prints.a (lanes_from l.a 0 l.count);
  b : print_from l.mask.items.bits l.h.b (lanes_from l.b l.i (l.count - l.i)) ≡ print_from l.mask.items.bits l.fn.prints.b (lanes_from l.b 0 l.count);
  c : print_from l.mask.items.bits l.h.c (lanes_from l.c l.i (l.count - l.i)) ≡ print_from l.mask.items.bits l.fn.prints.c (lanes_from l.c 0 l.count);
  d : print_from l.mask.items.bits l.h.d (lanes_from l.d l.i (l.count - l.i)) ≡ print_from l.mask.items.bits l.fn.prints.d (lanes_from l.d 0 l.count);
}
